-- The reader, the plan check and the desk give the answers of before over a file that does not begin with SPP2, and the reducing call over any
-- file.
use mathlib.Core.Path.{◌≡◌, refl}
use mathlib.Core.Bool.{Bool, true, false, cond}
use mathlib.Core.List.{List, map}
use Prim.Native.Nat.{ℕ, zero, suc, ◌-◌}
use lib.Dec.{eqb}
use lib.IntN.{ℤ, pos}
use lib.ListN.{get_or, get_or-map}
use Rattle.refusals.specs.Refusals.{Fault, fine, fault, ask, ◌then◌, unless, filled}
use Rattle.refusals.proofs.Laws.{both}
use Rattle.node.specs.Lists.{on, total, on_z, total_z}
use Rattle.node.specs.Matrix.{Matrix, width, price, signed_price, named}
use Rattle.dutyfile.specs.File.{columns_in, parse, shape}
use Rattle.dutyfile.specs.Faults.{rising, rooms_fault, file_fault, reading}
use Rattle.verify.specs.Verdict.{lowest, verdict, checking}
use Rattle.reduce.specs.Answer.{reduced_root, bound_of, reduced_costs, used_rows, lists_fault, reduce_fault, reducing}
use Rattle.desk.specs.declared.Way.{Way}
use Rattle.desk.specs.Desk.{Desk}
use Rattle.desk.specs.declared.Said.{Said}
use Rattle.desk.specs.Steps.{step_fault, stepping, after, moved_by, stepped, emptied}
use Rattle.former.specs.File.{NotSpp2, former_parse, former_shape}
use Rattle.former.specs.Faults.{former_file_fault}
use Rattle.former.specs.Answers.{map_outcome, in_spp1, FormerVerdict, signed_verdict, signed_bound}
use Rattle.former.specs.Calls.{former_reading, former_lowest, former_verdict, former_checking, former_step_fault, former_stepping, former_moved_by, former_stepped, former_emptied}
use Rattle.former.specs.Calls.{former_reduced_root, former_bound_of, former_reduced_costs, former_used_rows, former_reducing}
use Rattle.former.proofs.Outcomes.{same_outcome, same-filled}
use Rattle.former.proofs.Files.{former_edition, former_fault, former_costs, former_instance_lem, spp1_tests, former_spp1_fault, tested_instance}

-- costs read as signed numbers: one of them, their sum over a choice, and the verdict
cost_at_lem : (costs : List ℕ) (j : ℕ) → get_or (map pos costs) j (pos 0) ≡ pos (get_or costs j 0)
cost_at_lem costs j = get_or-map pos costs j 0

on-is : (b : Bool) (c : ℕ) → on_z b (pos c) ≡ pos (on b c)
on-is true c = refl
on-is false c = refl

total-is : (n : ℕ) (X : ℕ → Bool) (costs : List ℕ) → total_z n (λ j. on_z (X j) (get_or (map pos costs) j (pos 0))) ≡ pos (total n (λ j. on (X j) (get_or costs j 0)))
unfolding total total_z
total-is zero X costs = refl
total-is (suc n) X costs = rw (total-is n X costs, cost_at_lem costs n, on-is (X n) (get_or costs n 0))

lowest-is : (covered : ℕ → ℕ) (c m i : ℕ) → lowest covered (pos c) m i ≡ signed_verdict (former_lowest covered c m i)
unfolding lowest former_lowest
lowest-is covered c zero i = refl
lowest-is covered c (suc m) i = rw (lowest-is covered c m (suc i)) (go (eqb (covered i) 1) _ _)
  where
    go : (b : Bool) (x y : FormerVerdict) → cond b (signed_verdict x) (signed_verdict y) ≡ signed_verdict (cond b x y)
    go true x y = refl
    go false x y = refl

verdict-is : (p : Matrix) (costs : List ℕ) (X : ℕ → Bool) → verdict p (map pos costs) X ≡ signed_verdict (former_verdict p costs X)
unfolding verdict former_verdict signed_price price
verdict-is p costs X = rw (total-is (width p) X costs) (lowest-is _ _ p.rows 0)

-- a desk that moves only where a step passes
after_same : (f : Fault) (x : Said) (new former old : Desk) → (f ≡ fine → new ≡ former) → after (unless f x) new old ≡ after (unless f x) former old
unfolding unless after
after_same fine x new former old e = rw (e refl)
after_same (fault k) x new former old e = refl

module _ (s : List ℕ) (other : NotSpp2 s) where
  shape_is : shape s ≡ in_spp1 (former_shape s)
  unfolding shape former_shape parse former_parse
  shape_is = rw (former_edition s other)

  -- the reader: what it gives, and the three lists afterwards
  module _ (c l r : ℕ) where
    rooms : (file_fault s then rooms_fault (shape s) c l r) ≡ (former_file_fault s then rooms_fault (shape s) c l r)
    rooms = rw (former_fault s other)

    pub former_reading_lem : reading s c l r ≡ map_outcome in_spp1 (former_reading s c l r)
    unfolding reading former_reading
    former_reading_lem = same_outcome _ rooms _ _ in_spp1 (λ e. shape_is)

    pub former_read_costs : (old : List ℤ) → filled (reading s c l r) (parse s).costs old ≡ filled (former_reading s c l r) (map pos (former_parse s).costs) old
    unfolding reading former_reading
    former_read_costs old = same-filled _ rooms _ _ old (λ e. former_costs s other (both _ _ e).0)

    pub former_read_lengths : (old : List ℕ) → filled (reading s c l r) (parse s).lengths old ≡ filled (former_reading s c l r) (former_parse s).lengths old
    unfolding reading former_reading parse former_parse
    former_read_lengths old = same-filled _ rooms _ _ old (λ e. refl)

    pub former_read_numbers : (old : List ℕ) → filled (reading s c l r) (parse s).numbers old ≡ filled (former_reading s c l r) (former_parse s).numbers old
    unfolding reading former_reading parse former_parse
    former_read_numbers old = same-filled _ rooms _ _ old (λ e. refl)

  -- the plan check
  pub former_checking_lem : (js : List ℕ) → checking s js ≡ map_outcome signed_verdict (former_checking s js)
  unfolding checking former_checking
  former_checking_lem js =
      same_outcome (file_fault s then ask (rising 0 (columns_in s) js) 12) (rw (former_fault s other)) _ _ signed_verdict
      (λ e. let ok : file_fault s ≡ fine = (both _ _ e).0 in rw (former_instance_lem s other ok, former_costs s other ok) (verdict-is _ _ (named js)))

  -- a desk made empty, what a step says, and the desk after it
  pub former_emptied_lem : (d : Desk) → emptied s d ≡ former_emptied s d
  unfolding emptied former_emptied
  former_emptied_lem d = rw (former_fault s other)

  module _ (way : Way) (number : ℕ) (d : Desk) where
    pub former_stepping_lem : stepping way s number d ≡ former_stepping way s number d
    unfolding stepping former_stepping step_fault former_step_fault
    former_stepping_lem = rw (former_fault s other)

    moves : step_fault s number ≡ fine → moved_by way s number d ≡ former_moved_by way s number d
    unfolding step_fault moved_by former_moved_by
    moves e =
        let ok : file_fault s ≡ fine = (both _ _ e).0 in
        rw (former_instance_lem s other ok, former_costs s other ok, cost_at_lem (former_parse s).costs (number - 1))

    pub former_stepped_lem : stepped way s number d ≡ former_stepped way s number d
    unfolding stepped former_stepped stepping
    former_stepped_lem = rw (← former_stepping_lem) (after_same (step_fault s number) _ _ _ d moves)

-- the reducing call: what it answers, and its two lists afterwards
module _ (s : List ℕ) (c o : ℕ) where
  abbrev more : Fault
  more = lists_fault (shape s) c o

  roots : spp1_tests s more ≡ fine → reduced_root s ≡ former_reduced_root s
  unfolding reduced_root former_reduced_root
  roots e = rw (tested_instance s more e)

  pub former_reducing_lem : reducing s c o ≡ map_outcome signed_bound (former_reducing s c o)
  unfolding reducing reduce_fault former_reducing bound_of former_bound_of
  former_reducing_lem = same_outcome _ (former_spp1_fault s more) _ _ signed_bound (λ e. rw (roots e))

  pub former_reduced_costs_lem : (old : List ℤ) → filled (reducing s c o) (reduced_costs s) old ≡ filled (former_reducing s c o) (map pos (former_reduced_costs s)) old
  unfolding reducing reduce_fault former_reducing reduced_costs former_reduced_costs
  former_reduced_costs_lem old = same-filled _ (former_spp1_fault s more) _ _ old (λ e. rw (roots e))

  pub former_used_rows_lem : (old : List ℕ) → filled (reducing s c o) (used_rows s) old ≡ filled (former_reducing s c o) (former_used_rows s) old
  unfolding reducing reduce_fault former_reducing used_rows former_used_rows
  former_used_rows_lem old = same-filled _ (former_spp1_fault s more) _ _ old (λ e. rw (roots e))
