-- What the steps of building a matrix come to.
use Rattle.std.specs.Prelude.{◌≡◌, Bool, List, [], ◌∷◌, map, ℕ, suc, ◌+◌, ◌*◌, ◌-◌, ◌≤◌, ◌<◌, length, get_or, set, eqb}
use Rattle.std.proofs.lemmas.List.Edits.{sets}
use Rattle.node.specs.Lists.{keep, upto}
use Rattle.node.specs.Stored.{Body}
use Rattle.dutyfile.specs.File.{sum, bodies}

-- a list with parts put into it: from place k on where each starts and where the last one ends, and from another place on the parts
unfoldable pub put : List ℕ → ℕ → ℕ → List (List ℕ) → List ℕ
put l k at [] = set l k at
put l k at (b ∷ bs) = put (sets (set l k at) at b) (suc k) (at + length b) bs

-- how long all parts are together
abbrev pub size : List (List ℕ) → ℕ
size bs = sum (map length bs)

-- the place of row i and column j in a table of 64 rows of 256 columns
abbrev pub place : ℕ → ℕ → ℕ
place i j = 256 * i + j

-- such a table with column j marked at the rows of a body
unfoldable pub marked : ℕ → List ℕ → List ℕ → List ℕ
marked j [] cover = cover
marked j (r ∷ rs) cover = marked j rs (set cover (place (r - 1) j) 1)

-- and with the columns from j on marked at the rows of their bodies
unfoldable pub all_marked : ℕ → List (List ℕ) → List ℕ → List ℕ
all_marked j [] cover = cover
all_marked j (b ∷ bs) cover = all_marked (suc j) bs (marked j b cover)

-- the columns below n that the table marks in row i, and in each row
abbrev pub marked_in : List ℕ → ℕ → ℕ → Bool
marked_in cover i j = eqb (get_or cover (place i j) 0) 1

abbrev pub marks_of : List ℕ → ℕ → ℕ → List ℕ
marks_of cover n i = keep (marked_in cover i) (upto n)

abbrev pub all_marks : List ℕ → ℕ → ℕ → List (List ℕ)
all_marks cover n rows = map (marks_of cover n) (upto rows)

-- lists state bodies for which the list and the table have room
pub record Room (lengths numbers : List ℕ) : Type 0 where
  pub few : length lengths ≤ 256
  pub full : sum lengths ≤ 4096
  pub numbers_long : length numbers ≡ sum lengths
  pub rows : (j : ℕ) → j < length lengths → Body (get_or (bodies lengths numbers) j [])

-- and so do the marks of a table
pub record RowRoom (cover : List ℕ) (columns rows at : ℕ) : Type 0 where
  pub few : columns ≤ 256
  pub low : rows ≤ 64
  pub full : at + size (all_marks cover columns rows) ≤ 8516
