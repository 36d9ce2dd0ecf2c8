use native.Mathlib.Omega.{arith}
use Rattle.refusals.specs.Refusals.{fault_of}
use Rattle.dutyfile.proofs.Rising.{as_they_are}
use Rattle.writer.proofs.Bodies.{testing_whole, testing_stop, testing_next, testing_end}
use Rattle.writer.proofs.check_bodies.Goals as goal

pub slice_bounds-rises-end : goal.slice_bounds-rises-end
slice_bounds-rises-end c = omega (arith, testing_whole _ _ _ _ _ c.loop-size.invariant c.loop-size-test.true)

pub returns-then-not-rises : goal.returns-then-not-rises
unfolding fault_of
returns-then-not-rises c = testing_stop _ _ _ _ _ c.loop-size.invariant c.loop-size-test.true _ (as_they_are _ _ _ (rw c.from.ensures at c.rises.ensures)) c.if-not-rises.true

pub loop-size-preserved : goal.loop-size-preserved
loop-size-preserved c = rw c.from.ensures (testing_next _ _ _ _ _ c.loop-size.invariant c.loop-size-test.true _ (as_they_are _ _ _ (rw c.from.ensures at c.rises.ensures)) c.if-not-rises.false)

pub returns : goal.returns
unfolding fault_of
returns c = testing_end _ _ _ _ _ c.loop-size.invariant c.loop-size-test.false
