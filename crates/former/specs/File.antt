-- The duty file as it was before SPP2: layout, lists, and the file of given lists. What did not change is that of crates/dutyfile.
use Rattle.std.specs.Prelude.{◌≡◌, false, List, [], ◌∷◌, ◌++◌, map, ℕ, ◌+◌, length, take, drop}
use Rattle.endian.specs.Bytes.{same, bytes16, bytes32}
use Rattle.node.specs.Matrix.{Instance}
use Rattle.dutyfile.specs.declared.Edition.TheVariants.{Spp2}
use Rattle.dutyfile.specs.declared.Entry.{Entry}
use Rattle.dutyfile.specs.File.{magic, rows_in, columns_in, bodies_at, entries, size_of, sum, bodies}

-- a file that does not begin with SPP2: so is each that was accepted before
abbrev pub NotSpp2 : List ℕ → Type 0
NotSpp2 s = same (take 4 s) (magic Spp2) ≡ false

-- the four ASCII bytes SPP1
abbrev pub former_magic : List ℕ
former_magic = 83 ∷ 80 ∷ 80 ∷ 49 ∷ []

abbrev pub former_cost_of : Entry → ℕ
former_cost_of e = e.cost

-- the lists of a file: each column's cost and body length, and the row numbers of all bodies in column order
pub record FormerLists : Type 0 where
  pub rows : ℕ
  pub costs : List ℕ
  pub lengths : List ℕ
  pub numbers : List ℕ

abbrev pub former_lists : ℕ → List ℕ → List ℕ → List ℕ → FormerLists
former_lists m costs lengths numbers = record { rows = m; costs = costs; lengths = lengths; numbers = numbers }

-- the lists that a file holds
unfoldable pub former_parse : List ℕ → FormerLists
former_parse s = record {
  rows = rows_in s;
  costs = map former_cost_of (entries s);
  lengths = map size_of (entries s);
  numbers = drop (bodies_at (columns_in s)) s;
}

-- the 8 bytes of an entry
abbrev pub former_entry_bytes : ℕ → ℕ → ℕ → List ℕ
former_entry_bytes c at l = bytes32 c ++ bytes16 at ++ bytes16 l

-- the contents for given costs and body lengths, with the first body at a place
unfoldable pub former_contents : ℕ → List ℕ → List ℕ → List ℕ
former_contents at [] ls = []
former_contents at (c ∷ cs) [] = []
former_contents at (c ∷ cs) (l ∷ ls) = former_entry_bytes c at l ++ former_contents (at + l) cs ls

-- the first 8 bytes
unfoldable pub former_header : ℕ → ℕ → List ℕ
former_header m n = former_magic ++ bytes16 m ++ bytes16 n

-- the file of given lists
unfoldable pub former_render : FormerLists → List ℕ
former_render d =
    let n : ℕ = length d.costs in
    former_header d.rows n ++ former_contents (bodies_at n) d.costs d.lengths ++ d.numbers

-- the set partitioning instance that lists state
unfoldable pub former_instance : FormerLists → Instance
former_instance d = record { matrix = record { rows = d.rows; bodies = bodies d.lengths d.numbers }; costs = d.costs }

-- what the reader gives: rows m, columns n, and row numbers t in all
pub record FormerShape : Type 0 where
  pub rows : ℕ
  pub columns : ℕ
  pub entries : ℕ

unfoldable pub former_shape : List ℕ → FormerShape
former_shape s = record { rows = rows_in s; columns = columns_in s; entries = sum (former_parse s).lengths }
