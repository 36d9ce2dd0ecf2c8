-- What a desk reads of the finding holds, trial by trial: before trial k every trial below was covered, and the columns that the last one
-- showed cover the rows before row k.
use mathlib.Core.Path.{◌≡◌, refl}
use mathlib.Core.Bool.{Bool, true, false}
use mathlib.Core.List.{List, []}
use Prim.Native.Nat.{ℕ, zero, suc, ◌+◌, ◌-◌, ◌≤◌, ◌<◌}
use native.Mathlib.Omega.{arith}
use lib.Dec.{eqb}
use lib.ListN.{length}
use borrow.Author.Tests.{eqb-true, eqb-false}
use Rattle.node.specs.Matrix.{Matrix, width, covers, count, IsPlan, named}
use Rattle.node.specs.Lists.{member, on}
use Rattle.rules.specs.Search.{Answer, best, none, stopped, nothing, plan, shown_by, is_stopped}
use Rattle.rules.proofs.Sums.{total-zero}
use Rattle.dutyfile.specs.File.{Lists, instance}
use Rattle.dutyfile.specs.Faults.{rising}
use Rattle.trials.specs.Trials.{trial, own, judged, trials_from, finding}
use Rattle.trials.specs.Told.{CoversFirst, Covered, NoCrew, StoppedAt, Told}
use Rattle.trials.proofs.Extended.{Extendable}
use Rattle.trials.proofs.Searched.{trial-none, trial-covers, trial-rises}

module _ (d : Lists) (x : Extendable d) (limit : ℕ) where
  abbrev p : Matrix
  p = (instance d).matrix

  -- before trial k, where the trial before it showed these columns
  record Before (k : ℕ) (shown : List ℕ) : Type 0 where
    one : 1 ≤ k
    rises : rising 0 (width p) shown ≡ true
    covers : CoversFirst p (k - 1) (named shown)
    below : (h : ℕ) → 1 ≤ h → h < k → Covered d limit h

  -- before trial 1
  start : Before 1 []
  unfolding rising count member
  start = record {
    one = omega arith;
    rises = refl;
    covers = record {
      apart = λ i l. omega (arith, total-zero (width p) (λ j. on false (on (covers p i j) 1)) (λ j h. refl));
      covered = λ i l. absurd (omega (arith, l));
    };
    below = λ h l m. absurd (omega (arith, l, m));
  }

  module _ (k : ℕ) (shown : List ℕ) (b : Before k shown) where
    -- after the last trial
    plan_there : k ≡ suc d.rows → (X : ℕ → Bool) × IsPlan p X
    unfolding instance
    plan_there q = (named shown, λ i l. omega (arith, b.covers.apart i l, b.covers.covered i (omega (arith, l, q))))

    module _ (low : k ≤ d.rows) where
      fewer : (h : ℕ) → h < k → (X : ℕ → Bool) × CoversFirst p h X
      fewer h l = (
        named shown,
        record { apart = b.covers.apart; covered = λ i m. b.covers.covered i (omega (arith, l, m)) },
      )

      -- trial k's answer
      no_crew_told : (n : ℕ) → trial d limit k ≡ none n → NoCrew p k shown
      unfolding instance
      no_crew_told n e = record {
        row = (b.one, low);
        none = trial-none d x limit k b.one low n e;
        rise = b.rises;
        shown = b.covers;
        smallest = fewer;
      }

      stopped-told : (u n : ℕ) → trial d limit k ≡ stopped nothing u n → StoppedAt d limit k
      unfolding is_stopped shown_by
      stopped-told u n e = record { row = (b.one, low); stopped = rw e; bare = rw e; below = b.below; crewed = fewer }

      next : (c : ℕ) (js : List ℕ) → shown_by (trial d limit k) ≡ plan c js → Before (suc k) (own (length d.costs) js)
      next c js e = record {
        one = omega arith;
        rises = trial-rises d x limit k b.one low c js e;
        covers = let s : suc k - 1 ≡ k = omega arith in rw s (trial-covers d x limit k b.one low c js e);
        below = λ h l m. go h l m (eqb h k) refl;
      }
        where
          go : (h : ℕ) → 1 ≤ h → h < suc k → (t : Bool) → eqb h k ≡ t → Covered d limit h
          go h l m true q = rw (eqb-true h k q) (record { cost = c; columns = js; shows = e })
          go h l m false q = b.below h l (let s = eqb-false h k q in omega (arith, m, s))

  -- so many trials from k on
  told-from : (n k : ℕ) (shown : List ℕ) → k + n ≡ suc d.rows → Before k shown → Told d limit (trials_from d limit n k shown)
  unfolding Told trials_from judged shown_by
  told-from zero k shown e b = plan_there k shown b (omega (arith, e))
  told-from (suc n) k shown e b =
      go (trial d limit k) refl (λ c js q. told-from n (suc k) _ (omega (arith, e)) (next k shown b (omega (arith, e)) c js q))
    where
      go : (a : Answer) → trial d limit k ≡ a
          → ((c : ℕ) (js : List ℕ) → shown_by (trial d limit k) ≡ plan c js → Told d limit (trials_from d limit n (suc k) (own (length d.costs) js)))
          → Told d limit (judged k shown a (λ js. trials_from d limit n (suc k) (own (length d.costs) js)))
      go (none m) q f = no_crew_told k shown b (omega (arith, e)) m q
      go (stopped nothing u m) q f = stopped-told k shown b (omega (arith, e)) u m q
      go (stopped (plan c js) u m) q f = f c js (rw q)
      go (best c u m js) q f = f c js (rw q)

  pub finding-told : Told d limit (finding d limit)
  unfolding finding
  finding-told = told-from d.rows 1 [] (omega arith) start
