-- A row whose least present cost is 0 is no candidate, so the candidates stay when its mark goes. Costs that fall make no row a candidate, so
-- tables of rows with the same candidates have the same ones afterwards.
use mathlib.Core.Path.{◌≡◌, ap, sym, ◌∙◌}
use mathlib.Core.Bool.{Bool, false, false≢true}
use mathlib.Core.List.{List, []}
use Prim.Native.Nat.{ℕ, ◌≤◌}
use native.Mathlib.Omega.{arith}
use lib.ListN.{get_or, set}
use lib.Seq.{get_or-set_other}
use lib.Dec.{eqb, ltb}
use borrow.Author.Tests.{lt-ltb, le-ltb, ltb-true}
use Rattle.node.specs.Lists.{keep, upto}
use Rattle.node.specs.Matrix.{Matrix}
use Rattle.node.specs.Node.{free_columns, free_of, open_rows}
use Rattle.node.specs.View.{view}
use Rattle.rules.specs.Reduce.{least_of, candidates}
use Rattle.candidates.proofs.Keep.{keep_where, keep-within}

-- row i closed
pub mark_other : (row : List ℕ) (i k : ℕ) → (k ≡ i → ⊥) → eqb (get_or (set row i 0) k 0) 1 ≡ eqb (get_or row k 0) 1
mark_other row i k n = ap (λ (x : ℕ). eqb x 1) (get_or-set_other row i k 0 0 n)

-- where it fails a test, it is not among the open rows that pass it
keep-closed : (u : ℕ → Bool) (row : List ℕ) (i n : ℕ) → u i ≡ false →
    keep u (keep (λ k. eqb (get_or (set row i 0) k 0) 1) (upto n)) ≡ keep u (keep (λ k. eqb (get_or row k 0) 1) (upto n))
keep-closed u row i n z = keep_where u _ _ (upto n) (λ k h. mark_other row i k (λ e. false≢true (sym z ∙ rw e at h)))

pub closed_same : (p : Matrix) (cost column row : List ℕ) (i : ℕ) → least_of p (view cost column row) i ≡ 0 →
    candidates p (view cost column (set row i 0)) ≡ candidates p (view cost column row)
unfolding candidates open_rows least_of free_of free_columns
closed_same p cost column row i z =
    keep-closed (λ k. ltb 0 (least_of p (view cost column row) k)) row i p.rows (le-ltb 0 (least_of p (view cost column row) i) (omega arith))

-- costs that fall
module _ (p : Matrix) (cost lowered column : List ℕ)
    (falls : (k : ℕ) → least_of p (view lowered column []) k ≤ least_of p (view cost column []) k) where
  usable : List ℕ → ℕ → Bool
  usable c k = ltb 0 (least_of p (view c column []) k)

  still : (row : List ℕ) → keep (usable lowered) (candidates p (view cost column row)) ≡ candidates p (view lowered column row)
  unfolding candidates open_rows least_of free_of free_columns usable
  still row =
      keep-within (usable lowered) (usable cost) (open_rows p (view cost column row))
      (λ k h. lt-ltb 0 (least_of p (view cost column []) k) (omega (arith, falls k, ltb-true 0 (least_of p (view lowered column []) k) h)))

  pub lowered-same : (row left : List ℕ) → candidates p (view cost column left) ≡ candidates p (view cost column row) →
      candidates p (view lowered column left) ≡ candidates p (view lowered column row)
  lowered-same row left e = sym (still left) ∙ ap (keep (usable lowered)) e ∙ still row
