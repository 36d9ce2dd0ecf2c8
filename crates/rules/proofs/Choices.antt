-- The choices look at a node's marks of columns and at present costs alone. So two searches choose alike at two nodes that agree in these:
-- code that chooses by a table of costs serves both goals.
use mathlib.Core.Path.{◌≡◌, fun_ext}
use Prim.Native.Nat.{ℕ}
use Rattle.node.specs.declared.Node.{Node}
use Rattle.node.specs.Matrix.{Matrix}
use Rattle.node.specs.Node.{free_columns, free_of}
use Rattle.rules.specs.Tree.{Variant, zeros, dearer, penalty, row_before, sharing, column_before}

module _ (p : Matrix) (o v : Variant) (s t : Node) (m : t.column ≡ s.column) (e : (j : ℕ) → o.present s j ≡ v.present t j) where
  as_one : o.present s ≡ v.present t
  as_one = fun_ext e

  pub same-zeros : (i : ℕ) → zeros o p s i ≡ zeros v p t i
  unfolding zeros free_of free_columns
  same-zeros i = rw (as_one, m)

  pub same-penalty : (i : ℕ) → penalty o p s i ≡ penalty v p t i
  unfolding penalty dearer free_of free_columns
  same-penalty i = rw (as_one, m)

  row_at : (i k : ℕ) → row_before o p s i k ≡ row_before v p t i k
  unfolding row_before zeros penalty dearer free_of free_columns
  row_at i k = rw (as_one, m)

  column-at : (j k : ℕ) → column_before o p s j k ≡ column_before v p t j k
  unfolding column_before sharing free_columns
  column-at j k = rw (as_one, m)

  pub same_row : row_before o p s ≡ row_before v p t
  same_row = fun_ext (λ i. fun_ext (row_at i))

  pub same_column : column_before o p s ≡ column_before v p t
  same_column = fun_ext (λ j. fun_ext (column-at j))
