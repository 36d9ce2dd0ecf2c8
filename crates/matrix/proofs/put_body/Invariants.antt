-- The row numbers that are left to put give what all of them give.
use Rattle.matrix.proofs.Putting.{Copying}
use Rattle.matrix.proofs.put_body.Given as goal

abbrev pub invariant-loop-k : goal.invariant-loop-k
invariant-loop-k l = Copying l.body l.initial.matrix l.at l.matrix l.k
