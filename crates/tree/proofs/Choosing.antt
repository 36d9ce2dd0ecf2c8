-- A node that branches has an open row, and the row chosen has a free column at cost 0. So there is a column to choose, and the branches
-- are those that take and leave it. A penalty is the present cost of a free column, so it can be added to the bound.
use mathlib.Core.Path.{◌≡◌, refl, ap, ◌∙◌}
use mathlib.Core.Bool.{false≢true}
use mathlib.Core.List.{List, [], ◌∷◌}
use Prim.Native.Nat.{ℕ, ◌+◌, ◌<◌}
use native.Mathlib.Omega.{arith}
use lib.Dec.{ltb}
use Rattle.node.specs.declared.Node.{Node}
use Rattle.node.specs.Lists.{member, pick}
use Rattle.node.specs.Matrix.{Matrix}
use Rattle.node.specs.Node.{cost_at, free_of, take, leave}
use Rattle.node.specs.View.{view}
use Rattle.node.specs.Stored.{matrix_in, HasRow}
use Rattle.node.proofs.Members.{kept, pick-member, least_at}
use Rattle.rules.specs.Search.{split}
use Rattle.rules.specs.Tree.{Variant, sum, penalty_of, zeros, dearer, penalty, row_before, column_before, branch_on}
use Rattle.rules.proofs.Plans.{Open, Free, FreeIn}
use Rattle.rules.proofs.Rows.{open_in, free_in_lem}
use Rattle.rules.proofs.Visits.{zero_in_lem, in_zero}
use Rattle.choice.specs.declared.BranchRow.{BranchRow}
use Rattle.choice.specs.Row.{amount, branch_row, best_row, bound_without}
use Rattle.choice.proofs.Picked.{row_of, row_picked}
use Rattle.choice.proofs.Without.{without_is}
use Rattle.columns.specs.Column.{best_column}
use Rattle.columns.proofs.Picked.{column_of_lem, column_picked}
use Rattle.tree.specs.declared.Choice.{Choice}
use Rattle.tree.specs.Walks.{Splits, Choosable, branches_of, branches, column_of, choice_by, choice_of}

-- the row chosen, and the column of those at cost 0 in it, for any search
module _ (o : Variant) (p : Matrix) (s : Node) (b : Splits o p s) where
  abbrev r : ℕ
  r = pick (row_before o p s) b.i b.is

  row_open : Open p s r
  row_open = open_in p s r (rw b.opened (pick-member (row_before o p s) b.i b.is))

  record Zeros : Type 0 where
    j : ℕ
    js : List ℕ
    are : zeros o p s r ≡ j ∷ js

  some-zeros : Zeros
  unfolding member
  some-zeros = go (zeros o p s r) refl
    where
      go : (js : List ℕ) → zeros o p s r ≡ js → Zeros
      go [] e =
          let k = b.zero r row_open (omega (arith, b.two r row_open)) in
          absurd (false≢true (rw e at (in_zero o p s r k.0 k.1 k.2)))
      go (j ∷ js) e = record { j = j; js = js; are = e }

  choice_is : choice_of o p s ≡ choice_by o p s (b.i ∷ b.is)
  choice_is = ap (choice_by o p s) b.opened

  abbrev c : ℕ
  c = pick (column_before o p s) some-zeros.j some-zeros.js

  column-is : (choice_of o p s).column ≡ c
  unfolding choice_by column_of
  column-is = ap (λ (x : Choice). x.column) choice_is ∙ ap (column_of o p s) some-zeros.are

  -- it is free, and the branches are those on it
  pub chosen-free : Free p s (choice_of o p s).column
  chosen-free =
      let m : FreeIn p s r c = zero_in_lem o p s r c (rw some-zeros.are (pick-member (column_before o p s) some-zeros.j some-zeros.js)) in
      rw column-is m.free

  pub chosen-splits : let k : Choice = choice_of o p s in branches o p s ≡ split (take p s k.column (o.join s k.column)) (leave s k.column) k.bound
  unfolding branches_of branch_on choice_by column_of
  chosen-splits = rw (b.opened, some-zeros.are)

-- the penalty of a row is 0 as a number, or the cost of one of its free columns
penalty-room : (p : Matrix) (s : Node) (top : ℕ) → s.bound < top → ((j : ℕ) → Free p s j → s.bound + cost_at s j < top)
    → (i : ℕ) → s.bound + amount (penalty (sum p) p s i) < top
unfolding penalty penalty_of amount dearer
penalty-room p s top low room i = go (dearer (sum p) p s i) refl
  where
    go : (js : List ℕ) → dearer (sum p) p s i ≡ js → s.bound + amount (penalty_of (cost_at s) js) < top
    go [] e = omega (arith, low)
    go (j ∷ js) e =
        let k = least_at (cost_at s) j js in
        let f = free_in_lem p s i k.0 (kept (λ j. ltb 0 (cost_at s j)) k.0 (free_of p s i) (rw e k.1)).1 in
        omega (arith, k.2, room k.0 f.free)

-- as code finds them, by a table of costs
module _ (l : List ℕ) (s : Node) (w : Choosable l s) (best : BranchRow) (told : best ≡ best_row (matrix_in l) (view s.cost s.column s.row)) where
  abbrev p : Matrix
  p = matrix_in l

  abbrev b : Splits (sum p) p s
  b = w.splits

  abbrev i : ℕ
  i = r (sum p) p s b

  best_is : best ≡ branch_row p s i
  best_is = told ∙ row_of p s ∙ row_picked p s b.i b.is b.opened

  row_is : best.row ≡ i
  unfolding branch_row
  row_is = ap (λ (x : BranchRow). x.row) best_is

  pub choice_row : HasRow l best.row
  choice_row = record { kept = w.kept; row = omega (arith, row_is, (row_open (sum p) p s b).row) }

  pub choice_room : s.bound + best.penalty < 4294967296
  unfolding branch_row
  choice_room =
      let f : Free p s _ = chosen-free (sum p) p s b in
      omega (
        arith,
        ap (λ (x : BranchRow). x.penalty) best_is,
        penalty-room p s 4294967296 (omega (arith, w.room _ f)) w.room i,
      )

  pub choice_made : (found : ℕ) → found ≡ best_column (matrix_in l) (view s.cost s.column []) best.row →
      (bound : ℕ) → bound ≡ bound_without s.bound best → record { column = found; bound = bound } ≡ choice_of (sum (matrix_in l)) (matrix_in l) s
  unfolding choice_by column_of
  choice_made found at bound e =
      let z : Zeros (sum p) p s b = some-zeros (sum p) p s b in
      let column-is : found ≡ pick (column_before (sum p) p s) z.j z.js =
      at ∙ column_of_lem p s best.row ∙ ap (best_column p s) row_is ∙ column_picked p s i z.j z.js z.are in
      rw (column-is, e ∙ ap (bound_without s.bound) best_is ∙ without_is p s s.bound i, b.opened, z.are)

  pub choice_low : (found : ℕ) → found ≡ best_column (matrix_in l) (view s.cost s.column []) best.row → found < 256
  choice_low found at =
      let e : found ≡ (choice_of (sum p) p s).column = ap (λ (x : Choice). x.column) (choice_made found at (bound_without s.bound best) refl) in
      omega (arith, e, (chosen-free (sum p) p s b).col, w.kept.small.fits.wide)
