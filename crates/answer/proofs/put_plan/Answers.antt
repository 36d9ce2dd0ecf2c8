use Rattle.answer.proofs.Putting.{putting_start, putting_room, putting_taken, putting_other, putting_end}
use Rattle.answer.proofs.put_plan.Goals as goal
use Rattle.answer.proofs.put_plan.Goals.{then-marks-j-eq2, else-marks-j-eq2}

pub loop-j-init : goal.loop-j-init
loop-j-init c = putting_start _ _ _ c.requires

pub bounds-plan-count : goal.bounds-plan-count
bounds-plan-count c = putting_room _ _ _ _ _ _ c.loop-j.invariant c.loop-j-test.true c.if-marks-j-eq2.true

pub loop-j-preserved : goal.loop-j-preserved
loop-j-preserved c = elim c.if-marks-j-eq2.branch [
  | then-marks-j-eq2 w ↦ rw (w.count-is, w.plan-is) (putting_taken _ _ _ _ _ _ c.loop-j.invariant c.loop-j-test.true w.if-marks-j-eq2.true)
  | else-marks-j-eq2 w ↦ rw (w.count-is, w.plan-is) (putting_other _ _ _ _ _ _ c.loop-j.invariant c.loop-j-test.true w.if-marks-j-eq2.false)
]

pub returns : goal.returns
returns c =
    record {
      value = (putting_end _ _ _ _ _ _ c.loop-j.invariant c.loop-j-test.false).0;
      plan_after = (putting_end _ _ _ _ _ _ c.loop-j.invariant c.loop-j-test.false).1;
    }
