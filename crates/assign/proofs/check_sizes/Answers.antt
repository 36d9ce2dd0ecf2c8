-- Each way out of the tests is one way out of the definition.
use borrow.Author.Tests.{le-leb, lt-leb}
use Rattle.refusals.specs.Refusals.{fault_of, ask, ◌then◌}
use Rattle.assign.specs.Answer.{sizes_fault}
use Rattle.assign.proofs.check_sizes.Goals as goal
use Rattle.assign.proofs.check_sizes.Goals.{then-crews-lt1-via-then-crews-lt1, then-crews-lt1-via-else-crews-lt1+then-crews-gt16, then-crews-lt1-via-else-crews-lt1+else-crews-gt16+then-vessels-gt16, then-crews-lt1-via-else-crews-lt1+else-crews-gt16+else-vessels-gt16+then-vessels-crews}

pub returns-then-crews-lt1 : goal.returns-then-crews-lt1
unfolding fault_of sizes_fault ask ◌then◌
returns-then-crews-lt1 c =
    let m = c.args.crews in
    let n = c.args.vessels in
    elim c.then-crews-lt1.branch [
      | then-crews-lt1-via-then-crews-lt1 w ↦ simp (sizes_fault, lt-leb 1 m w.if-crews-lt1.true)
      | then-crews-lt1-via-else-crews-lt1+then-crews-gt16 w ↦ simp (sizes_fault, le-leb 1 m w.if-crews-lt1.false, lt-leb m 16 w.if-crews-gt16.true)
      | then-crews-lt1-via-else-crews-lt1+else-crews-gt16+then-vessels-gt16 w ↦
          simp (sizes_fault, le-leb 1 m w.if-crews-lt1.false, le-leb m 16 w.if-crews-gt16.false, lt-leb n 16 w.if-vessels-gt16.true)
      | then-crews-lt1-via-else-crews-lt1+else-crews-gt16+else-vessels-gt16+then-vessels-crews w ↦
          simp (sizes_fault, le-leb 1 m w.if-crews-lt1.false, le-leb m 16 w.if-crews-gt16.false, le-leb n 16 w.if-vessels-gt16.false, lt-leb m n w.if-vessels-crews.true)
    ]

pub returns : goal.returns
unfolding fault_of sizes_fault ask ◌then◌
returns c =
    let a = c.args in
    simp (
      sizes_fault,
      le-leb 1 a.crews c.if-crews-lt1.false,
      le-leb a.crews 16 c.if-crews-gt16.false,
      le-leb a.vessels 16 c.if-vessels-gt16.false,
      le-leb a.crews a.vessels c.if-vessels-crews.false,
    )
