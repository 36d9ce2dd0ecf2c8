-- A column of the file is found, then it is seen whether the step changes the desk.
use mathlib.Core.Path.{sym, ◌∙◌}
use Rattle.refusals.specs.Refusals.{outcome}
use Rattle.refusals.proofs.Laws.{refuses, handed_on}
use Rattle.desk.proofs.Ways.{passed, found_ready, found_here, step-refused, step_idle, step-done}
use Rattle.desk.proofs.step.Goals as goal

pub overflow_sub-number : goal.overflow_sub-number
unfolding outcome
overflow_sub-number c = (passed _ _ (found_here _ _ _ c.in_ok-e.ensures).passes).1

pub bounds-marks-number : goal.bounds-marks-number
unfolding outcome
bounds-marks-number c = (found_ready _ _ _ (found_here _ _ _ c.in_ok-e.ensures)).0

pub move_entry-requires : goal.move_entry-requires
unfolding outcome
move_entry-requires c = found_here _ _ _ c.in_ok-e.ensures

pub returns-in_err-e : goal.returns-in_err-e
unfolding outcome
returns-in_err-e c =
    let s = step-refused _ _ _ _ _ (refuses _ _ _ (sym c.in_err-e.ensures)) in
    rw (handed_on _ _ c.from_residual.ensures.1) (record { result_value = s.0; total_after = s.1 })

pub returns-then-not-is_change : goal.returns-then-not-is_change
unfolding outcome
returns-then-not-is_change c =
    let s = step_idle _ _ _ _ (found_here _ _ _ c.in_ok-e.ensures).passes (sym c.is_change.ensures ∙ c.if-not-is_change.true) in
    record { result_value = s.0; total_after = s.1 }

pub returns : goal.returns
unfolding outcome
returns c =
    let s = step-done _ _ _ _ (found_here _ _ _ c.in_ok-e.ensures).passes _ (sym c.is_change.ensures ∙ c.if-not-is_change.false) c.move_entry.ensures in
    record { result_value = s.0; total_after = s.1 }
