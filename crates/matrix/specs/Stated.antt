-- The matrix that lists state, and what it means that a list holds it.
use Rattle.std.specs.Prelude.{◌≡◌, List, ℕ, length}
use Rattle.node.specs.Matrix.{Matrix}
use Rattle.node.specs.Stored.{matrix_in, Small, Kept}
use Rattle.dutyfile.specs.File.{sum, bodies}

-- the matrix that lists state: the number of rows, the body lengths, and the row numbers of all bodies
abbrev pub stated : ℕ → List ℕ → List ℕ → Matrix
stated rows lengths numbers = record { rows = rows; bodies = bodies lengths numbers }

-- it is that of an accepted file
pub record Statable (rows : ℕ) (lengths numbers : List ℕ) : Type 0 where
  pub small : Small (stated rows lengths numbers)
  pub numbers_long : length numbers ≡ sum lengths

-- a list is well formed and holds a matrix
pub record Holds (l : List ℕ) (p : Matrix) : Type 0 where
  pub kept : Kept l
  pub is : matrix_in l ≡ p
