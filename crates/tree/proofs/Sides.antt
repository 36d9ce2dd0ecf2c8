-- Side constraints change what settles a node, and neither the choice nor the branches: these look at marks, present costs and the bound
-- alone.
use mathlib.Core.Path.{◌≡◌, refl}
use mathlib.Core.List.{List, [], ◌∷◌}
use Prim.Native.Nat.{ℕ}
use Rattle.node.specs.declared.Node.{Node}
use Rattle.node.specs.Matrix.{Matrix}
use Rattle.node.specs.Node.{open_rows}
use Rattle.rules.specs.declared.Goal.{Goal}
use Rattle.rules.specs.Tree.{Penalty, zeros, dearer, penalty, row_before, sharing, column_before, branch_on}
use Rattle.rules.specs.Goals.{search_for, search_with}
use Rattle.tree.specs.Walks.{Splits, branches_of, branches}

module _ (g : Goal) (side : List ℕ) (p : Matrix) (s : Node) where
  pub splits-same : Splits (search_with g side p) p s → Splits (search_for g p) p s
  splits-same x = record { two = x.two; zero = x.zero; i = x.i; is = x.is; opened = x.opened }

  on_same : (q : Penalty) (js : List ℕ) → branch_on (search_with g side p) p s q js ≡ branch_on (search_for g p) p s q js
  unfolding branch_on sharing column_before
  on_same q [] = refl
  on_same q (j ∷ js) = refl

  pub branches-same : branches (search_with g side p) p s ≡ branches (search_for g p) p s
  unfolding branches_of zeros dearer penalty row_before
  branches-same = go (open_rows p s)
    where
      go : (is : List ℕ) → branches_of (search_with g side p) p s is ≡ branches_of (search_for g p) p s is
      go [] = refl
      go (i ∷ is) = on_same _ _
