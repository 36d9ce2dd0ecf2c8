-- Each way out of the tests is one way out of the definition.
use borrow.Author.Tests.{le-leb, lt-leb}
use Rattle.refusals.specs.Refusals.{fault_of, ask, ◌then◌}
use Rattle.dutyfile.specs.Faults.{rooms_fault}
use Rattle.reader.proofs.check_rooms.Goals as goal

pub returns-then-costs-found : goal.returns-then-costs-found
unfolding fault_of rooms_fault ask ◌then◌
returns-then-costs-found c = simp (rooms_fault, lt-leb _ _ c.if-costs-found.true)

pub returns-then-lengths-found : goal.returns-then-lengths-found
unfolding fault_of rooms_fault ask ◌then◌
returns-then-lengths-found c = simp (rooms_fault, le-leb _ _ c.if-costs-found.false, lt-leb _ _ c.if-lengths-found.true)

pub returns-then-rows-found : goal.returns-then-rows-found
unfolding fault_of rooms_fault ask ◌then◌
returns-then-rows-found c = simp (rooms_fault, le-leb _ _ c.if-costs-found.false, le-leb _ _ c.if-lengths-found.false, lt-leb _ _ c.if-rows-found.true)

pub returns : goal.returns
unfolding fault_of rooms_fault ask ◌then◌
returns c = simp (rooms_fault, le-leb _ _ c.if-costs-found.false, le-leb _ _ c.if-lengths-found.false, le-leb _ _ c.if-rows-found.false)
