-- The choice of the column (01, The tree: the least C / s) among the free columns of a row at cost 0.
use Rattle.std.specs.Prelude.{◌≡◌, Bool, true, List, [], ◌∷◌, Option, Some, None, ℕ, ◌*◌, ◌≤◌, ◌<◌, ltb}
use Rattle.node.specs.declared.Node.{Node}
use Rattle.node.specs.Lists.{keep, member}
use Rattle.node.specs.Passes.{best_in}
use Rattle.node.specs.Matrix.{Matrix, width, span}
use Rattle.rules.specs.Tree.{sum, zeros, sharing, column_before}
use Rattle.node.specs.View.{view}
use Rattle.candidates.specs.Row.{zero_in}
use Rattle.columns.specs.declared.BranchColumn.{BranchColumn}

-- what the choice looks at in column j
unfoldable pub branch_column : Matrix → Node → ℕ → BranchColumn
branch_column p s j = record { share = sharing (sum p) p s j; size = span p j; column = j }

-- the lesser C / s, by products
unfoldable pub column_precedes : BranchColumn → BranchColumn → Bool
column_precedes a b = ltb (a.share * b.size) (b.share * a.size)

-- every column that covers a row comes before this one, which stands where no column is at cost 0
abbrev pub no_column : BranchColumn
no_column = record { share = 1; size = 0; column = 0 }

-- of some columns the one that no other comes before, and 0 where there are none
abbrev pub column_from : Matrix → Node → List ℕ → ℕ
column_from p s js = best_in (λ j. j) (column_before (sum p) p s) 0 js

-- the column to branch on in row i
abbrev pub best_column : Matrix → Node → ℕ → ℕ
best_column p s i = column_from p s (zeros (sum p) p s i)

-- of the columns given
abbrev pub column_of : Matrix → List ℕ → List ℕ → List ℕ → ℕ
column_of p cost column js = column_from p (view cost column []) (keep (zero_in cost column) js)

-- the one element of a list that has just one
unfoldable pub only : List ℕ → Option ℕ
only [] = None
only (j ∷ []) = Some j
only (j ∷ (k ∷ ks)) = None

-- columns of a matrix
abbrev pub InColumns : Matrix → List ℕ → Type 0
InColumns p js = (k : ℕ) → member k js ≡ true → k < width p

-- the products of such numbers are small
pub record Few (a : BranchColumn) : Type 0 where
  pub share_few : a.share ≤ 256
  pub size_few : a.size ≤ 4096
