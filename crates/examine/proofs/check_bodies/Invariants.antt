-- The bodies that are left come to what all of them come to.
use Rattle.examine.proofs.Bodies.{Testing}
use Rattle.examine.proofs.check_bodies.Given as goal

abbrev pub invariant-loop-j : goal.invariant-loop-j
invariant-loop-j l = Testing l.file l.rows l.columns l.j
