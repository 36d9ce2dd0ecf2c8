-- The best candidate: the open rows that are left, looked at one by one, give the row that is picked from all candidates.
use mathlib.Core.Path.{◌≡◌, refl, ap, ◌∙◌}
use mathlib.Core.Bool.{Bool, true, false}
use mathlib.Core.List.{List, []}
use Prim.Native.Nat.{ℕ, ◌+◌, ◌-◌, ◌≤◌, ◌<◌}
use native.Mathlib.Omega.{arith}
use lib.ListN.{get_or, set}
use lib.Dec.{eqb, ltb}
use borrow.Author.Tests.{eq-eqb, ne_eqb, ltb-true, ltb-false}
use Rattle.node.specs.declared.Node.{Node}
use Rattle.rules.specs.declared.Candidate.{Candidate}
use Rattle.node.specs.Lists.{keep, from}
use Rattle.node.specs.Passes.{carry, follow}
use Rattle.node.specs.Matrix.{Matrix}
use Rattle.node.specs.Node.{free_columns, free_of, open_rows}
use Rattle.rules.specs.Reduce.{least_of, candidates, candidate, precedes, row_first}
use Rattle.node.proofs.Members.{keep_cong}
use Rattle.node.proofs.Passes.{Passing, passing_start, passing_open, passing_closed, passing_end, follow-none}
use Rattle.node.specs.Stored.{matrix_in, Kept, row_columns}
use Rattle.node.specs.View.{view}
use Rattle.candidates.specs.Best.{none, ahead, better, best_of, has_zero, Chooses}
use Rattle.candidates.proofs.Zero.{zero-least}
use Rattle.candidates.proofs.Keep.{from_high}
use Rattle.candidates.proofs.Closing.{mark_other, closed_same}

module _ (p : Matrix) (s : Node) where
  usable : ℕ → Bool
  usable i = ltb 0 (least_of p s i)

  -- a row with a cost is a candidate, and one without is none
  has-cost : (i : ℕ) → usable i ≡ true → eqb (candidate p s i).cost 0 ≡ false
  unfolding candidate usable
  has-cost i h = ne_eqb (least_of p s i) 0 (λ e. omega (arith, ltb-true 0 (least_of p s i) h))

  no_cost : (i : ℕ) → usable i ≡ false → eqb (candidate p s i).cost 0 ≡ true
  unfolding candidate usable
  no_cost i h = eq-eqb (least_of p s i) 0 (omega (arith, ltb-false 0 (least_of p s i) h))

  best_is : follow (candidate p s) ahead none (open_rows p s) ≡ best_of p s
  unfolding candidates usable ahead row_first
  best_is =
      follow-none (candidate p s) ahead (row_first precedes p s) usable (λ i k g h. rw (has-cost i g, has-cost k h)) (λ b i h. rw (no_cost i h)) none
      (open_rows p s) (λ i m h. rw (has-cost i h))

-- what a row changes
abbrev step : List ℕ → List ℕ → List ℕ → Candidate → ℕ → Candidate
step l cost column b x = better b (candidate (matrix_in l) (view cost column []) x)

-- at row i of a pass over the rows marked, with the marks that are left
pub record Choosing (l cost column row left : List ℕ) (rows : ℕ) (best : Candidate) (i : ℕ) : Type 0 where
  pub pass : Passing (step l cost column) (best_of (matrix_in l) (view cost column row)) l (view cost column left) rows best i
  pub same : candidates (matrix_in l) (view cost column left) ≡ candidates (matrix_in l) (view cost column row)

pub choosing_start : (l cost column row : List ℕ) (rows : ℕ) → Kept l → rows ≡ (matrix_in l).rows → Choosing l cost column row row rows none 0
unfolding candidate least_of free_of free_columns
choosing_start l cost column row rows k e = record {
  pass = passing_start _ _ l (view cost column row) rows none k e (best_is (matrix_in l) (view cost column row));
  same = refl;
}

-- the rows after one that is closed
rest-same : (row : List ℕ) (i n : ℕ) →
    keep (λ k. eqb (get_or (set row i 0) k 0) 1) (from n (i + 1)) ≡ keep (λ k. eqb (get_or row k 0) 1) (from n (i + 1))
rest-same row i n = keep_cong _ _ (from n (i + 1)) (λ k m. mark_other row i k (λ e. omega (arith, from_high n (i + 1) k m)))

module _ (l cost column row left : List ℕ) (rows : ℕ) (best : Candidate) (i : ℕ) (w : Choosing l cost column row left rows best i) where
  pub choosing_closed : i < rows → (get_or left i 0 ≡ 1 → ⊥) → Choosing l cost column row left rows best (i + 1)
  choosing_closed inside h = record { pass = passing_closed w.pass inside h; same = w.same }

  pub choosing_end : rows ≤ i → Chooses (matrix_in l) cost column row left best
  choosing_end h = record { best_is = passing_end w.pass h; same = w.same }

  module _ (inside : i < rows) (h : get_or left i 0 ≡ 1) where
    pub choosing_open : (found next : Candidate) → found ≡ candidate (matrix_in l) (view cost column []) i → next ≡ better best found →
        Choosing l cost column row left rows next (i + 1)
    choosing_open found next told is = record { pass = passing_open w.pass inside h next (is ∙ rw told); same = w.same }

    -- a row with a free column at cost 0 is passed over, and closed
    pub choosing_zero : (js : List ℕ) → js ≡ row_columns (matrix_in l) i → true ≡ has_zero cost column js →
        Choosing l cost column row (set left i 0) rows best (i + 1)
    unfolding ahead candidate
    choosing_zero js is z =
        let e : eqb (candidate (matrix_in l) (view cost column []) i).cost 0 ≡ true = eq-eqb _ 0 (zero-least (matrix_in l) cost column [] js i is z) in
        let q = passing_open w.pass inside h best (rw e) in
        record {
          pass = record {
            kept = q.kept;
            rows_is = q.rows_is;
            left = ap (carry (step l cost column) best) (rest-same left i (rows - (i + 1))) ∙ q.left;
          };
          same = closed_same (matrix_in l) cost column left i (zero-least (matrix_in l) cost column left js i is z) ∙ w.same;
        }
