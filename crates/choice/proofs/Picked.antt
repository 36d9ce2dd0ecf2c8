-- The choice of the row in the words of the rules: it looks at a node's costs, columns and rows alone, and where a row is open it gives the
-- one that is picked.
use mathlib.Core.Path.{◌≡◌, refl, ap}
use mathlib.Core.List.{List, ◌∷◌}
use Prim.Native.Nat.{ℕ}
use Rattle.node.specs.declared.Node.{Node}
use Rattle.node.specs.Lists.{pick}
use Rattle.node.specs.Passes.{best_in}
use Rattle.node.specs.Matrix.{Matrix}
use Rattle.node.specs.Node.{free_columns, free_of, open_rows}
use Rattle.rules.specs.Tree.{sum, zeros, dearer, penalty, row_before}
use Rattle.node.specs.View.{view}
use Rattle.choice.specs.Row.{branch_row, no_row, best_row}

module _ (p : Matrix) (s : Node) where
  pub row_of : best_row p (view s.cost s.column s.row) ≡ best_row p s
  unfolding branch_row row_before zeros penalty dearer free_of free_columns open_rows
  row_of = refl

  pub row_picked : (i : ℕ) (is : List ℕ) → open_rows p s ≡ i ∷ is → best_row p s ≡ branch_row p s (pick (row_before (sum p) p s) i is)
  unfolding best_in
  row_picked i is e = ap (best_in (branch_row p s) (row_before (sum p) p s) no_row) e
