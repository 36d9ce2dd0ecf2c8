-- A row's statistics are those of its own columns, and the order of two rows is that of their statistics: a penalty is most where no free
-- column is above cost 0, and then the least of their costs is 0.
use mathlib.Core.Path.{◌≡◌, refl, ap, sym, ◌∙◌}
use mathlib.Core.Bool.{true}
use mathlib.Core.List.{List, [], ◌∷◌}
use Prim.Native.Nat.{ℕ, zero, suc, ◌≤◌, ◌<◌}
use native.Mathlib.Omega.{arith}
use lib.ListN.{length}
use lib.Dec.{eqb, ltb}
use borrow.Author.Tests.{lt-ltb}
use Rattle.node.specs.declared.Node.{Node}
use Rattle.node.specs.Lists.{keep, least}
use Rattle.node.specs.Matrix.{Matrix, width, columns, covers}
use Rattle.node.specs.Stored.{row_columns}
use Rattle.node.specs.Node.{is_free, cost_at, free_columns, free_of}
use Rattle.rules.specs.Reduce.{by_order}
use Rattle.rules.specs.Tree.{sum, just, penalty_of, zeros, dearer, penalty, row_before}
use Rattle.node.proofs.Members.{keep-short, keep-upto}
use Rattle.node.specs.View.{view}
use Rattle.node.proofs.Parts.{free-row}
use Rattle.choice.specs.Row.{amount, penalty_at, branch_row, precedes, no_row, tally, tally_in}
use Rattle.choice.proofs.Tally.{least_above}

amount-is : (f : ℕ → ℕ) (ks : List ℕ) → least f ks ≡ amount (penalty_of f ks)
unfolding amount penalty_of least
amount-is f [] = refl
amount-is f (k ∷ ks) = refl

above_zero : (c : ℕ) → 0 < c → penalty_at c ≡ just c
unfolding penalty_at
above_zero zero h = absurd (omega arith)
above_zero (suc c) h = refl

module _ (p : Matrix) (s : Node) where
  tally-row : (i : ℕ) → tally (cost_at s) (free_of p s i) i ≡ branch_row p s i
  unfolding tally branch_row zeros dearer penalty
  tally-row i = rw (amount-is (cost_at s) (keep (λ j. ltb 0 (cost_at s j)) (free_of p s i)))

  -- a penalty is the one that its number stands for
  number_of_lem : (i : ℕ) → penalty_at (amount (penalty (sum p) p s i)) ≡ penalty (sum p) p s i
  unfolding penalty dearer penalty_at amount penalty_of
  number_of_lem i = go (keep (λ j. ltb 0 (cost_at s j)) (free_of p s i)) refl
    where
      go : (ks : List ℕ) → keep (λ j. ltb 0 (cost_at s j)) (free_of p s i) ≡ ks →
          penalty_at (amount (penalty_of (cost_at s) ks)) ≡ penalty_of (cost_at s) ks
      go [] e = refl
      go (k ∷ ks) e =
          above_zero (least (cost_at s) (k ∷ ks)) (rw e at (least_above (cost_at s) (free_of p s i) (rw e (omega arith))))

  pub same-order : (i k : ℕ) → precedes (branch_row p s i) (branch_row p s k) ≡ row_before (sum p) p s i k
  unfolding precedes branch_row row_before
  same-order i k = rw (number_of_lem i, number_of_lem k)

  -- every row of a matrix comes before none
  pub before-none : width p ≤ 256 → (i : ℕ) → precedes (branch_row p s i) no_row ≡ true
  unfolding precedes branch_row by_order zeros free_of free_columns
  before-none w i =
      let fs : List ℕ = keep (is_free s) (columns p) in
      let l : length (zeros (sum p) p s i) < 257 = omega (
        arith,
        keep-short (λ j. eqb (cost_at s j) 0) (keep (covers p i) fs),
        keep-short (covers p i) fs,
        keep-upto (is_free s) (width p),
      ) in
      rw (lt-ltb (length (zeros (sum p) p s i)) 257 l)

pub row_is : (p : Matrix) (i : ℕ) (cost column row : List ℕ) → row ≡ row_columns p i →
    tally_in cost column row i ≡ branch_row p (view cost column []) i
row_is p i cost column row is =
    let s : Node = view cost column [] in
    ap (λ (r : List ℕ). tally_in cost column r i) is ∙ ap (λ (r : List ℕ). tally (cost_at s) r i) (sym (free-row p s i)) ∙ tally-row p s i
