-- The choice looks at a node's marks and present costs alone, and at its bound. So for the longest duty it is that of the sum at a node
-- that has the present costs in its table, where a cost and the bound make the larger of both.
use mathlib.Core.Path.{◌≡◌, refl, ap, sym, ◌∙◌}
use mathlib.Core.List.{List, [], ◌∷◌}
use Prim.Native.Nat.{ℕ}
use native.Mathlib.Omega.{arith}
use lib.ListN.{get_or}
use Rattle.node.specs.declared.Node.{Node}
use Rattle.node.specs.Matrix.{Matrix}
use Rattle.node.specs.Node.{cost_at, free_columns, free_of, open_rows}
use Rattle.node.specs.View.{node_of}
use Rattle.node.specs.Stored.{matrix_in}
use Rattle.rules.specs.declared.Goal.TheVariants.{Sum, Longest}
use Rattle.rules.specs.Tree.{Variant, sum}
use Rattle.rules.specs.Longest.{excess, longest}
use Rattle.rules.specs.Goals.{search_for}
use Rattle.rules.proofs.Plans.{Free}
use Rattle.rules.proofs.Choices.{same-zeros, same-penalty, same_row, same_column}
use Rattle.goals.specs.Raising.{less_bound}
use Rattle.goals.proofs.Taking.{takes-room}
use Rattle.goals.proofs.Costs.{less-at}
use Rattle.tree.specs.declared.Choice.{Choice}
use Rattle.tree.specs.Walks.{Splits, Choosable, Chooses, column_of, choice_by, choice_of}

-- two searches, at two nodes with the same marks and bound and the same present costs
module _ (p : Matrix) (o v : Variant) (s t : Node) (m : t.column ≡ s.column) (n : t.row ≡ s.row)
    (e : (j : ℕ) → o.present s j ≡ v.present t j) where
  rows_same : open_rows p t ≡ open_rows p s
  unfolding open_rows
  rows_same = rw n

  splits-same : Splits o p s → Splits v p t
  unfolding free_of free_columns
  splits-same b = record {
    two = λ i h. rw m (b.two i (record { row = h.row; is_open_true = rw n at h.is_open_true }));
    zero = λ i h l.
        let k = b.zero i (record { row = h.row; is_open_true = rw n at h.is_open_true }) (rw m at l) in (
          k.0,
          record { free = record { col = k.1.free.col; is_free_true = rw m k.1.free.is_free_true }; covering = k.1.covering },
          sym (e k.0) ∙ k.2,
        );
    i = b.i;
    is = b.is;
    opened = rows_same ∙ b.opened;
  }

  choice_same : t.bound ≡ s.bound → choice_of v p t ≡ choice_of o p s
  unfolding column_of choice_by
  choice_same q = rw rows_same (go (open_rows p s))
    where
      column-same : (js : List ℕ) → column_of v p t js ≡ column_of o p s js
      column-same [] = refl
      column-same (j ∷ js) = rw (same_column p o v s t m e)

      go : (is : List ℕ) → choice_by v p t is ≡ choice_by o p s is
      go [] = refl
      go (i ∷ is) = rw (same_row p o v s t m e, same-zeros p o v s t m e, same-penalty p o v s t m e, column-same, q)

-- for the sum a node's costs are the present ones
module _ (l : List ℕ) (s : Node) (w : Chooses Sum l s) where
  pub sum_choosable : Choosable l s
  unfolding search_for
  sum_choosable = record {
    kept = w.node.some.kept;
    room = λ j f. takes-room Sum l s j (record { some = w.node.some; free = f });
    splits = w.node.splits;
  }

-- for the longest duty a table has them
module _ (l : List ℕ) (s : Node) (w : Chooses Longest l s) (net : List ℕ) (told : net ≡ less_bound s.bound s.cost) where
  abbrev p : Matrix
  p = matrix_in l

  abbrev t : Node
  t = node_of net s.column s.row s.bound

  net_at : (j : ℕ) → excess s j ≡ cost_at t j
  net_at j = sym (less-at s.bound s.cost w.wide j) ∙ ap (λ (l : List ℕ). get_or l j 0) (sym told)

  pub net_choosable : Choosable l (node_of net s.column s.row s.bound)
  unfolding search_for
  net_choosable = record {
    kept = w.node.some.kept;
    room = λ j f.
        let h : Free p s j = record { col = f.col; is_free_true = f.is_free_true } in
        omega (arith, net_at j, takes-room Longest l s j (record { some = w.node.some; free = h }));
    splits = splits-same p (longest p) (sum p) s t refl refl net_at w.node.splits;
  }

  pub net_choice : (c : Choice) → c ≡ choice_of (sum (matrix_in l)) (matrix_in l) (node_of net s.column s.row s.bound)
      → c ≡ choice_of (search_for Longest (matrix_in l)) (matrix_in l) s
  unfolding search_for
  net_choice c e = e ∙ choice_same p (longest p) (sum p) s t refl refl net_at refl
