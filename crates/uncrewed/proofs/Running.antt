-- The trials one after another: those that are left give what all of them give.
use mathlib.Core.Path.{◌≡◌, refl, ap, sym, ◌∙◌}
use mathlib.Core.Bool.{true, false}
use mathlib.Core.List.{List, [], ◌∷◌, map}
use Prim.Native.Nat.{ℕ, zero, suc, ◌+◌, ◌-◌, ◌≤◌, ◌<◌}
use native.Mathlib.Omega.{arith}
use lib.IntN.{ℤ}
use lib.Dec.{eqb}
use lib.ListN.{length, get_or, replicate, length-map}
use Rattle.refusals.specs.Refusals.{front}
use Rattle.node.specs.Lists.{keep, upto}
use Rattle.rules.specs.Search.{Answer, best, none, stopped, nothing, plan, shown_by}
use Rattle.dutyfile.specs.declared.Shape.{Shape}
use Rattle.dutyfile.specs.File.{Lists}
use Rattle.tally.specs.Tally.{taken_in}
use Rattle.solver.specs.declared.Solved.{Solved}
use Rattle.solver.specs.Solved.{solved_answer}
use Rattle.answer.specs.Plan.{PlanRoom}
use Rattle.answer.proofs.Given.{answer-stopped, answer-none, kept-shown}
use Rattle.trials.specs.Trials.{trial, own, Finding, no_crew, plan_exists, stopped_at, judged, trials_from, finding}
use Rattle.trials.proofs.Searched.{keep-below, trial-short}
use Rattle.trial.specs.Ready.{held, Ready}
use Rattle.uncrewed.specs.declared.UncrewedAnswer.TheVariants.{NoCrew, PlanExists, Stopped}
use Rattle.uncrewed.specs.Answer.{told, values_of, shown_of}

-- no column is marked
zero-at : (n j : ℕ) → get_or {A = ℕ} (replicate n 0) j 0 ≡ 0
zero-at zero j = refl
zero-at (suc n) zero = refl
zero-at (suc n) (suc j) = zero-at n j

none-taken : (n : ℕ) (xs : List ℕ) → keep (λ j. eqb (get_or (replicate n 0) j 0) 2) xs ≡ []
unfolding keep
none-taken n [] = refl
none-taken n (x ∷ xs) = rw (zero-at n x) (none-taken n xs)

-- a trial that shows a plan is covered
judged-shown : (k : ℕ) (shown : List ℕ) (a : Answer) (next : List ℕ → Finding) (c : ℕ) (js : List ℕ) → shown_by a ≡ plan c js
    → judged k shown a next ≡ next js
unfolding shown_by judged
judged-shown k shown (best c u n ks) next d js e = let q : ks ≡ js = cc in ap next q
judged-shown k shown (none n) next d js e = absurd (let z : ◌≡◌ {A = ℕ} 0 1 = cc in omega arith)
judged-shown k shown (stopped nothing u n) next d js e = absurd (let z : ◌≡◌ {A = ℕ} 0 1 = cc in omega arith)
judged-shown k shown (stopped (plan c ks) u n) next d js e = let q : ks ≡ js = cc in ap next q

module _ (found : Shape) (costs : List ℤ) (lengths numbers : List ℕ) (limit : ℕ) where
  abbrev d : Lists
  d = held found costs lengths numbers

  -- the columns that a plan's marks show
  abbrev shows : List ℕ → List ℕ
  shows marks = map suc (taken_in found.columns marks)

  -- before trial k
  pub record Running (shown₀ shown marks : List ℕ) (k : ℕ) : Type 0 where
    pub ready : Ready found costs lengths numbers limit
    pub room : found.rows ≤ length shown₀
    pub same : shown ≡ shown₀
    pub one : 1 ≤ k
    pub top : k ≤ suc found.rows
    pub short : length (taken_in found.columns marks) ≤ found.rows
    pub left : trials_from d limit (suc found.rows - k) k (shows marks) ≡ finding d limit

  pub running_start : (shown marks : List ℕ) → Ready found costs lengths numbers limit → found.rows ≤ length shown → marks ≡ replicate 256 0
      → Running shown shown marks 1
  unfolding finding
  running_start shown marks r h is =
      let none : taken_in found.columns marks ≡ [] = rw is (none-taken 256 (upto found.columns)) in
      let s : suc found.rows - 1 ≡ found.rows = omega arith in
      record {
        ready = r;
        room = h;
        same = refl;
        one = omega arith;
        top = omega arith;
        short = rw none (omega arith);
        left = rw (none, s);
      }

  module _ (shown₀ shown marks : List ℕ) (k : ℕ) (w : Running shown₀ shown marks k) where
    -- the list has room for what is shown
    pub running_room : PlanRoom marks found.columns (length shown)
    running_room = record {
      wide = omega (arith, w.ready.lists.few, w.ready.columns_is);
      room = rw w.same (omega (arith, w.short, w.room));
    }

    pub running_end : found.rows < k
        → (told PlanExists ≡ values_of (finding d limit)) × (shown ≡ front (shown_of (finding d limit)) shown₀)
    unfolding trials_from told values_of shown_of front
    running_end l =
        let s : suc found.rows - k ≡ 0 = omega (arith, l) in
        let is : plan_exists ≡ finding d limit = rw s at w.left in
        rw (← is) (refl, w.same)

    module _ (low : k ≤ found.rows) (done : Solved) (solved : solved_answer (found.columns + (found.rows - k)) done ≡ trial d limit k) where
      next : List ℕ → Finding
      next js = trials_from d limit (found.rows - k) (suc k) (own (length d.costs) js)

      judging : judged k (shows marks) (trial d limit k) next ≡ finding d limit
      unfolding trials_from next
      judging = let s : suc found.rows - k ≡ suc (found.rows - k) = omega (arith, low) in rw s at w.left

      pub ends-stopped : done.tally.kept ≡ false → done.tally.stopped ≡ true
          → (told (Stopped k) ≡ values_of (finding d limit)) × (shown ≡ front (shown_of (finding d limit)) shown₀)
      unfolding judged told values_of shown_of front
      ends-stopped e f =
          let is : stopped_at k ≡ finding d limit = rw (sym solved ∙ answer-stopped _ done e f) at judging in
          rw (← is) (refl, w.same)

      pub ends-shown : done.tally.kept ≡ false → done.tally.stopped ≡ false → (count : ℕ) (new : List ℕ)
          → count ≡ length (taken_in found.columns marks) → new ≡ front (shows marks) shown
          → (told (NoCrew (record { row = k; columns = count })) ≡ values_of (finding d limit))
          × (new ≡ front (shown_of (finding d limit)) shown₀)
      unfolding judged told values_of shown_of
      ends-shown e f count new c n =
          let is : no_crew k (shows marks) ≡ finding d limit = rw (sym solved ∙ answer-none _ done e f) at judging in
          rw (← is) (rw (c, length-map (taken_in found.columns marks) suc), rw w.same at n)

      pub running_next : done.tally.kept ≡ true → Running shown₀ shown done.tally.plan (k + 1)
      unfolding own next
      running_next e =
          let js : List ℕ = taken_in (found.columns + (found.rows - k)) done.tally.plan in
          let s : shown_by (trial d limit k) ≡ plan done.tally.cost js = rw solved at (kept-shown (found.columns + (found.rows - k)) done e) in
          let o : own (length d.costs) js ≡ shows done.tally.plan =
          rw w.ready.columns_is (ap (map suc) (keep-below (λ j. eqb (get_or done.tally.plan j 0) 2) found.columns (found.rows - k))) in
          let a : found.rows - k ≡ suc found.rows - (k + 1) = omega arith in
          let b : suc k ≡ k + 1 = omega arith in
          let g : trials_from d limit (found.rows - k) (suc k) (own (length d.costs) js) ≡ finding d limit =
          sym (judged-shown k (shows marks) (trial d limit k) next _ js s) ∙ judging in
          record {
            ready = w.ready;
            room = w.room;
            same = w.same;
            one = omega arith;
            top = omega (arith, low);
            short = omega (
              arith,
              trial-short d w.ready.lists limit k w.one low _ js s,
              ap length o,
              length-map (taken_in found.columns done.tally.plan) suc,
            );
            left = rw (← a, ← b, ← o) g;
          }
