-- Each way out of the tests is one way out of the definition.
use borrow.Author.Tests.{le-leb, lt-leb}
use Rattle.refusals.specs.Refusals.{fault_of, ask, ◌then◌}
use Rattle.uncrewed.specs.Answer.{trials_fault}
use Rattle.uncrewed.proofs.check_trials.Goals as goal

pub returns-then-found-gt192 : goal.returns-then-found-gt192
unfolding fault_of trials_fault ask ◌then◌
returns-then-found-gt192 c = simp (lt-leb _ _ c.if-found-gt192.true)

pub returns-then-found-gt4096 : goal.returns-then-found-gt4096
unfolding fault_of trials_fault ask ◌then◌
returns-then-found-gt4096 c = simp (le-leb _ _ c.if-found-gt192.false, lt-leb _ _ c.if-found-gt4096.true)

pub returns : goal.returns
unfolding fault_of trials_fault ask ◌then◌
returns c = simp (le-leb _ _ c.if-found-gt192.false, le-leb _ _ c.if-found-gt4096.false)
