-- What a file is read as.
use Rattle.std.specs.Prelude.{◌≡◌, List, ℕ, length}
use Rattle.refusals.specs.Refusals.{fine}
use Rattle.node.specs.Matrix.{width}
use Rattle.node.specs.Node.{root}
use Rattle.node.specs.Stored.{matrix_in, Kept}
use Rattle.rules.proofs.Costs.{Workable}
use Rattle.dutyfile.specs.declared.Shape.{Shape}
use Rattle.dutyfile.specs.File.{parse, instance, shape}
use Rattle.dutyfile.specs.Faults.{file_fault}

-- what an accepted file holds, the list that holds its matrix, and costs that give its root
pub record Loaded (file : List ℕ) (found : Shape) (l costs : List ℕ) : Type 0 where
  pub passes : file_fault file ≡ fine
  pub shape_is : shape file ≡ found
  pub long : length l ≡ 8516
  pub costs_long : length costs ≡ 256
  pub kept : Kept l
  pub is : matrix_in l ≡ (instance (parse file)).matrix
  pub rows_is : (matrix_in l).rows ≡ found.rows
  pub columns_is : width (matrix_in l) ≡ found.columns
  pub root_is : root (matrix_in l) costs ≡ root (instance (parse file)).matrix (instance (parse file)).costs
  pub workable : Workable l (root (matrix_in l) costs)
