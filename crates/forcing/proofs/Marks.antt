-- What the open rows ask of a node depends on its marks alone.
use mathlib.Core.Path.{◌≡◌, refl}
use mathlib.Core.List.{List, [], ◌∷◌}
use Prim.Native.Nat.{ℕ}
use Rattle.node.specs.declared.Node.{Node}
use Rattle.node.specs.Matrix.{Matrix}
use Rattle.node.specs.Node.{free_columns, free_of, open_rows}
use Rattle.node.specs.View.{view}
use Rattle.rules.specs.Force.{rows_with, asked_by, asked}

pub asked-marks : (p : Matrix) (n : Node) → asked p (view [] n.column n.row) ≡ asked p n
unfolding asked asked_by rows_with open_rows free_of free_columns
asked-marks p n = go (rows_with 0 p n) (rows_with 1 p n)
  where
    go : (is ks : List ℕ) → asked_by p (view [] n.column n.row) is ks ≡ asked_by p n is ks
    go (i ∷ is) ks = refl
    go [] (k ∷ ks) = refl
    go [] [] = refl
