-- The choice of the column in the words of the rules: it looks at a node's costs and columns alone, and where a free column of the row is at
-- cost 0 it gives the one that is picked.
use mathlib.Core.Path.{◌≡◌, refl, ap}
use mathlib.Core.List.{List, [], ◌∷◌}
use Prim.Native.Nat.{ℕ}
use Rattle.node.specs.declared.Node.{Node}
use Rattle.node.specs.Lists.{pick}
use Rattle.node.specs.Passes.{best_in}
use Rattle.node.specs.Matrix.{Matrix}
use Rattle.node.specs.Node.{free_columns, free_of}
use Rattle.rules.specs.Tree.{sum, zeros, sharing, column_before}
use Rattle.node.specs.View.{view}
use Rattle.columns.specs.Column.{column_from, best_column}

module _ (p : Matrix) (s : Node) where
  pub column_of_lem : (i : ℕ) → best_column p (view s.cost s.column []) i ≡ best_column p s i
  unfolding column_before sharing zeros free_of free_columns
  column_of_lem i = refl

  pub column_picked : (i j : ℕ) (js : List ℕ) → zeros (sum p) p s i ≡ j ∷ js →
      best_column p s i ≡ pick (column_before (sum p) p s) j js
  unfolding best_in
  column_picked i j js e = ap (column_from p s) e
