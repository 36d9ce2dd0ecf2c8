-- What a trial's answer says of the file: none means that no choice covers the first k rows, and a plan shown covers them without the
-- appended columns.
use mathlib.Core.Path.{◌≡◌, refl, ap, sym, ◌∙◌}
use mathlib.Core.Bool.{Bool, true}
use mathlib.Core.List.{List, [], ◌∷◌, ◌++◌, append-nil}
use Prim.Native.Nat.{ℕ, zero, suc, ◌+◌, ◌≤◌, ◌<◌}
use native.Mathlib.Nat.{zero-add, add-zero}
use native.Mathlib.Omega.{arith}
use lib.Dec.{ltb}
use lib.ListN.{length, length-map}
use borrow.Author.Tests.{lt-ltb, le-leb, le-ltb}
use Rattle.refusals.specs.Refusals.{accepted}
use Rattle.refusals.proofs.Laws.{passes, unless-fine}
use Rattle.node.specs.Lists.{keep, from, upto}
use Rattle.node.specs.Matrix.{Matrix, width, count, price, IsPlan, Shows, chosen, named}
use Rattle.node.specs.Node.{root}
use Rattle.node.specs.Stored.{Small}
use Rattle.node.proofs.Members.{member-keep, keep-short, keep_swap, keep_cong, keep_all, upto_lt}
use Rattle.node.proofs.Loops.{keep_append}
use Rattle.rules.specs.Search.{none, plan, shown_by, is_none, is_stopped}
use Rattle.rules.specs.Tree.{sum, live}
use Rattle.rules.specs.Demand.{Demand3}
use Rattle.rules.proofs.Plans.{plan-short}
use Rattle.rules.proofs.Sums.{count_same}
use Rattle.rules.proofs.Sum.{sum_demand_3}
use Rattle.dutyfile.specs.File.{Lists, parse, added, render, instance, shape}
use Rattle.dutyfile.specs.Faults.{rising}
use Rattle.dutyfile.proofs.Facts.{all_pass, within-asks, file-fine}
use Rattle.dutyfile.proofs.Columns.{length-bodies}
use Rattle.dutyfile.proofs.Rising.{numbers-rise, numbers-member}
use Rattle.dutyfile.proofs.Round.{ReadsBack, reads_back}
use Rattle.matrix.proofs.Accepted.{file-small}
use Rattle.answer.specs.Answer.{values_of}
use Rattle.search.specs.Searching.{call_fault, file_answer, searching}
use Rattle.trials.specs.Trials.{extended, trial, own}
use Rattle.trials.specs.Told.{CoversFirst}
use Rattle.trials.proofs.Extended.{Extendable, extended_passing, bodies-extended}
use Rattle.trials.proofs.Appended.{appended, width_appended, plan-covers, completed, covers-plan}

-- the columns below n of those below n + e
from-split : (n e k : ℕ) → from (n + e) k ≡ from n k ++ from e (k + n)
unfolding from
from-split zero e k = rw (zero-add e, add-zero k)
from-split (suc n) e k =
    let s : suc n + e ≡ suc (n + e) = omega arith in
    let t : suc k + n ≡ k + suc n = omega arith in
    rw (s, ← t) (ap (λ xs. k ∷ xs) (from-split n e (suc k)))

none_below : (n e k : ℕ) → n ≤ k → keep (λ j. ltb j n) (from e k) ≡ []
unfolding keep from
none_below n zero k l = refl
none_below n (suc e) k l = rw (le-ltb k n l) (none_below n e (suc k) (omega (arith, l)))

all_below : (n : ℕ) → keep (λ j. ltb j n) (upto n) ≡ upto n
all_below n = keep_cong (λ j. ltb j n) (λ j. true) (upto n) (λ j m. lt-ltb j n (upto_lt n j m)) ∙ keep_all (upto n)

pub keep-below : (t : ℕ → Bool) (n e : ℕ) → keep (λ j. ltb j n) (keep t (upto (n + e))) ≡ keep t (upto n)
keep-below t n e =
    keep_swap (λ j. ltb j n) t (upto (n + e))
    ∙ ap (keep t) (ap (keep (λ j. ltb j n)) (from-split n e 0) ∙ keep_append (λ j. ltb j n) (upto n) (from e (0 + n))
    ∙ rw (all_below n, none_below n e (0 + n) (omega arith)) (append-nil (upto n)))

module _ (d : Lists) (x : Extendable d) (limit k : ℕ) (one : 1 ≤ k) (low : k ≤ d.rows) where
  abbrev p : Matrix
  p = (instance d).matrix

  abbrev q : Matrix
  q = appended p k

  width_is : width p ≡ length d.costs
  unfolding instance
  width_is = length-bodies d.lengths d.numbers ∙ x.passes.same

  back : ReadsBack (extended k d)
  back = reads_back (extended k d) (extended_passing d x k one low)

  -- the search call of 01 takes the trial's file, and its answer is the trial's
  pub trial-searching : (places : ℕ) → d.rows ≤ places → 1 ≤ limit → limit ≤ 1000000
      → searching (render (extended k d)) limit places ≡ accepted (values_of (added (render (extended k d))) (trial d limit k))
  unfolding searching call_fault trial shape parse extended
  trial-searching places room least most =
      let rows : (shape (render (extended k d))).rows ≡ d.rows = ap (λ (x : Lists). x.rows) back.lists in
      let fits : (shape (render (extended k d))).rows ≤ places = rw rows room in
      sym
      (unless-fine _
      (all_pass back.passes
      (all_pass (passes 10 (le-leb _ _ fits)) (within-asks 1 1000000 limit 11 (record { least = least; most = most })))))

  matrix_is : (instance (parse (render (extended k d)))).matrix ≡ q
  unfolding instance extended
  matrix_is = rw (back.lists, bodies-extended d x k one low)

  small : Small q
  small = rw matrix_is at (file-small (render (extended k d)) (file-fine _ back.passes))

  trial_demand : (costs : List ℕ) × Demand3 q (sum q) (live (root q costs)) (IsPlan q) (price q costs) limit (trial d limit k)
  unfolding trial file_answer
  trial_demand =
      let cs : List ℕ = (instance (parse (render (extended k d)))).costs in
      (cs, rw matrix_is (sum_demand_3 q small.fits cs limit))

  pub trial-none : (n : ℕ) → trial d limit k ≡ none n → (X : ℕ → Bool) → CoversFirst p k X → ⊥
  unfolding is_none is_stopped
  trial-none n e X c = (trial_demand.1.none_exactly (rw e)).0 (rw e) (completed p k X) (covers-plan p k X c)

  module _ (cost : ℕ) (js : List ℕ) (e : shown_by (trial d limit k) ≡ plan cost js) where
    shows : Shows q (IsPlan q) (price q trial_demand.0) cost js
    shows = trial_demand.1.shown cost js e

    own-named : (j : ℕ) → j < width p → named (own (width p) js) j ≡ chosen js j
    unfolding own
    own-named j l = numbers-member j (keep (λ i. ltb i (width p)) js) ∙ member-keep (λ i. ltb i (width p)) j js ∙ rw (lt-ltb j (width p) l)

    pub trial-covers : CoversFirst p k (named (own (length d.costs) js))
    unfolding instance
    trial-covers =
        let c : CoversFirst p k (chosen js) = plan-covers p k low (chosen js) shows.ok in
        let same : (i : ℕ) → count p i (named (own (width p) js)) ≡ count p i (chosen js) = λ i. count_same p i _ _ own-named in
        rw (← width_is) (record { apart = λ i l. rw (same i) (c.apart i l); covered = λ i l. rw (same i) (c.covered i l) })

    pub trial-rises : rising 0 (width p) (own (length d.costs) js) ≡ true
    unfolding own
    trial-rises =
        let is : keep (λ j. ltb j (width p)) js ≡ keep (chosen js) (upto (width p)) =
        ap (keep (λ j. ltb j (width p))) (sym shows.listed ∙ ap (λ n. keep (chosen js) (upto n)) (width_appended p k)) ∙ keep-below (chosen js) (width p) _ in
        rw (← width_is, is) (rw (zero-add (width p)) at (numbers-rise (chosen js) (width p) 0 0 (omega arith)))

    pub trial-short : length (own (length d.costs) js) ≤ d.rows
    unfolding own instance
    trial-short =
        let w : ℕ = length d.costs in
        omega (
          arith,
          length-map (keep (λ j. ltb j w) js) suc,
          keep-short (λ j. ltb j w) js,
          plan-short q small js shows.listed shows.ok,
        )
