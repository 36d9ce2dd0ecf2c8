-- The columns that are left to be left give what all of them give.
use Rattle.requests.proofs.Loops.{leaving_free, leaving_other, leaving_end}
use Rattle.requests.proofs.leave_all.Goals as goal
use Rattle.requests.proofs.leave_all.Goals.{then-s-j-eq1, else-s-j-eq1}

pub loop-number-preserved : goal.loop-number-preserved
loop-number-preserved c = elim c.if-s-j-eq1.branch [
  | then-s-j-eq1 w ↦ rw w.s-is (leaving_free _ _ _ _ c.loop-number.invariant c.loop-number-test.true w.if-s-j-eq1.true _ w.leave-s.ensures)
  | else-s-j-eq1 w ↦ rw w.s-is (leaving_other _ _ _ _ c.loop-number.invariant c.loop-number-test.true w.if-s-j-eq1.false)
]

pub returns : goal.returns
returns c = leaving_end _ _ _ _ c.loop-number.invariant c.loop-number-test.false
