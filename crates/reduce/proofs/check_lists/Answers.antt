-- Each way out of the tests is one way out of the definition.
use borrow.Author.Tests.{le-leb, lt-leb}
use Rattle.refusals.specs.Refusals.{fault_of, ask, ◌then◌}
use Rattle.reduce.specs.Answer.{lists_fault}
use Rattle.reduce.proofs.check_lists.Goals as goal

pub returns-then-reduced-found : goal.returns-then-reduced-found
unfolding fault_of lists_fault ask ◌then◌
returns-then-reduced-found c = simp (lists_fault, lt-leb _ _ c.if-reduced-found.true)

pub returns-then-order-found : goal.returns-then-order-found
unfolding fault_of lists_fault ask ◌then◌
returns-then-order-found c = simp (lists_fault, le-leb _ _ c.if-reduced-found.false, lt-leb _ _ c.if-order-found.true)

pub returns : goal.returns
unfolding fault_of lists_fault ask ◌then◌
returns c = simp (lists_fault, le-leb _ _ c.if-reduced-found.false, le-leb _ _ c.if-order-found.false)
