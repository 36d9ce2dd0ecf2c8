use borrow.Author.Tests.{le-leb, lt-leb}
use Rattle.refusals.specs.Refusals.{fault_of, ask, ◌then◌}
use Rattle.dutyfile.specs.Faults.{counts_fault}
use Rattle.dutyfile.proofs.check_counts.Goals as goal

pub returns-then-rows-lt1 : goal.returns-then-rows-lt1
unfolding fault_of counts_fault ask ◌then◌
returns-then-rows-lt1 c = simp (counts_fault, lt-leb _ _ c.if-rows-lt1.true)

pub returns-then-rows-gt64 : goal.returns-then-rows-gt64
unfolding fault_of counts_fault ask ◌then◌
returns-then-rows-gt64 c = simp (counts_fault, le-leb _ _ c.if-rows-lt1.false, lt-leb _ _ c.if-rows-gt64.true)

pub returns-then-columns-lt1 : goal.returns-then-columns-lt1
unfolding fault_of counts_fault ask ◌then◌
returns-then-columns-lt1 c = simp (counts_fault, le-leb _ _ c.if-rows-lt1.false, le-leb _ _ c.if-rows-gt64.false, lt-leb _ _ c.if-columns-lt1.true)

pub returns-then-columns-gt256 : goal.returns-then-columns-gt256
unfolding fault_of counts_fault ask ◌then◌
returns-then-columns-gt256 c = simp (counts_fault, le-leb _ _ c.if-rows-lt1.false, le-leb _ _ c.if-rows-gt64.false, le-leb _ _ c.if-columns-lt1.false, lt-leb _ _ c.if-columns-gt256.true)

pub returns : goal.returns
unfolding fault_of counts_fault ask ◌then◌
returns c = simp (counts_fault, le-leb _ _ c.if-rows-lt1.false, le-leb _ _ c.if-rows-gt64.false, le-leb _ _ c.if-columns-lt1.false, le-leb _ _ c.if-columns-gt256.false)
