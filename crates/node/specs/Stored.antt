-- How a matrix is kept: as one list. Its numbers of rows and columns; the places where each row and where each body starts, 65 and 257
-- of them; then, from place 324 on, the row numbers of all bodies and the columns of all rows.
use Rattle.std.specs.Prelude.{◌≡◌, true, List, map, ℕ, ◌+◌, ◌-◌, ◌≤◌, ◌<◌, length, get_or, take, drop}
use Rattle.node.specs.Lists.{keep, upto, member, total}
use Rattle.node.specs.Matrix.{Matrix, width, columns, body, span, covers}

-- the part that starts where place k says, and ends where the next place says
abbrev pub part_at : List ℕ → ℕ → List ℕ
part_at l k = take (get_or l (k + 1) 0 - get_or l k 0) (drop (get_or l k 0) l)

-- the columns of row i, and the body of column j
abbrev pub row_in : List ℕ → ℕ → List ℕ
row_in l i = part_at l (2 + i)

abbrev pub body_in : List ℕ → ℕ → List ℕ
body_in l j = part_at l (67 + j)

-- the matrix that a list holds
unfoldable pub matrix_in : List ℕ → Matrix
matrix_in l = record { rows = get_or l 0 0; bodies = map (body_in l) (upto (get_or l 1 0)) }

-- the columns that cover row i, rising
abbrev pub row_columns : Matrix → ℕ → List ℕ
row_columns p i = keep (covers p i) (columns p)

-- a node's tables have a place for each row and column
pub record FitsNode (p : Matrix) : Type 0 where
  pub wide : width p ≤ 256
  pub tall : p.rows ≤ 64

-- what the matrix of an accepted file keeps to
pub record Small (p : Matrix) : Type 0 where
  pub fits : FitsNode p
  pub numbered : (j r : ℕ) → j < width p → member r (body p j) ≡ true → (1 ≤ r) × (r ≤ p.rows)
  pub covering : (j : ℕ) → j < width p → 0 < span p j
  pub full : total (width p) (span p) ≤ 4096

-- a part lies within the list
pub record Part (l : List ℕ) (k : ℕ) : Type 0 where
  pub rises : get_or l k 0 ≤ get_or l (k + 1) 0
  pub inside : get_or l (k + 1) 0 ≤ length l

-- the list is well formed, and its rows agree with its columns
pub record Kept (l : List ℕ) : Type 0 where
  pub long : 324 ≤ length l
  pub small : Small (matrix_in l)
  pub column : (j : ℕ) → j < width (matrix_in l) → Part l (67 + j)
  pub row : (i : ℕ) → i < (matrix_in l).rows → Part l (2 + i)
  pub agrees : (i : ℕ) → i < (matrix_in l).rows → row_in l i ≡ row_columns (matrix_in l) i

-- a kept matrix has a row i, or a column j
pub record HasRow (l : List ℕ) (i : ℕ) : Type 0 where
  pub kept : Kept l
  pub row : i < (matrix_in l).rows

pub record HasColumn (l : List ℕ) (j : ℕ) : Type 0 where
  pub kept : Kept l
  pub column : j < width (matrix_in l)

-- numbers of a node's columns, and row numbers of a matrix
abbrev pub Columns : List ℕ → Type 0
Columns js = (k : ℕ) → k < length js → get_or js k 0 < 256

abbrev pub InRows : Matrix → List ℕ → Type 0
InRows p rs = (k : ℕ) → k < length rs → (1 ≤ get_or rs k 0) × (get_or rs k 0 ≤ p.rows)

abbrev pub Body : List ℕ → Type 0
Body rs = (k : ℕ) → k < length rs → (1 ≤ get_or rs k 0) × (get_or rs k 0 ≤ 64)

pub record HasBody (l rs : List ℕ) : Type 0 where
  pub kept : Kept l
  pub numbered : InRows (matrix_in l) rs

-- columns of a kept matrix
pub record HasColumns (l js : List ℕ) : Type 0 where
  pub kept : Kept l
  pub inside : (k : ℕ) → k < length js → get_or js k 0 < width (matrix_in l)
