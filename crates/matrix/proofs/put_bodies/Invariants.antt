-- The bodies that are left to put and to mark give what all of them give.
use Rattle.matrix.proofs.Putting.{Putting}
use Rattle.matrix.proofs.put_bodies.Given as goal

abbrev pub invariant-loop-j : goal.invariant-loop-j
invariant-loop-j l = Putting l.lengths l.numbers l.initial.matrix l.initial.cover l.matrix l.cover l.start l.j
