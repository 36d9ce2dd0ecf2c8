use mathlib.Core.Path.{refl}
use native.Mathlib.Omega.{arith}
use Rattle.uncrewed.proofs.Running.{running_start, running_room, running_end, ends-stopped, ends-shown, running_next}
use borrow.Author.Tests.{not-true, not-false}
use Rattle.uncrewed.proofs.run_trials.Goals as goal

pub loop-k-init : goal.loop-k-init
loop-k-init c = let p = c.requires in running_start _ _ _ _ _ _ _ p.0 p.1 refl

pub search_trial-done-requires : goal.search_trial-done-requires
search_trial-done-requires c = let i = c.loop-k.invariant in (i.ready, i.one, c.loop-k-test.true)

pub returns-then-tally : goal.returns-then-tally
returns-then-tally c =
    let e = ends-stopped _ _ _ _ _ _ _ _ _ c.loop-k.invariant c.loop-k-test.true c.search_trial-done.result c.search_trial-done.ensures
    (not-true _ c.if-not-tally.true) c.if-tally.true in
    record { result_value = e.0; shown_after = e.1 }

pub put_plan-count-requires : goal.put_plan-count-requires
put_plan-count-requires c = running_room _ _ _ _ _ _ _ _ _ c.loop-k.invariant

pub returns-then-not-tally : goal.returns-then-not-tally
returns-then-not-tally c =
    let p = c.put_plan-count.ensures in
    let e = ends-shown _ _ _ _ _ _ _ _ _ c.loop-k.invariant c.loop-k-test.true c.search_trial-done.result c.search_trial-done.ensures
    (not-true _ c.if-not-tally.true) c.if-tally.false _ _ p.value p.plan_after in
    record { result_value = e.0; shown_after = e.1 }

pub loop-k-preserved : goal.loop-k-preserved
loop-k-preserved c =
    running_next _ _ _ _ _ _ _ _ _ c.loop-k.invariant c.loop-k-test.true c.search_trial-done.result c.search_trial-done.ensures
    (not-false _ c.if-not-tally.false)

-- after the trial of the last row
pub returns-else-not-tally : goal.returns-else-not-tally
returns-else-not-tally c =
    let w = running_next _ _ _ _ _ _ _ _ _ c.loop-k.invariant c.loop-k-test.true c.search_trial-done.result c.search_trial-done.ensures
    (not-false _ c.if-not-tally.false) in
    let e = running_end _ _ _ _ _ _ _ _ _ w (omega arith) in
    record { result_value = e.0; shown_after = e.1 }

pub returns : goal.returns
returns c =
    let e = running_end _ _ _ _ _ _ _ _ _ c.loop-k.invariant c.loop-k-test.false in
    record { result_value = e.0; shown_after = e.1 }
