-- The bodies that are left come to what all of them come to.
use Rattle.writer.proofs.Bodies.{Testing}
use Rattle.writer.proofs.check_bodies.Given as goal

abbrev pub invariant-loop-size : goal.invariant-loop-size
invariant-loop-size l = Testing l.rows l.lengths l.numbers l.start l.size-index
