-- The columns marked so far are those at cost 0 that cover one of the rows read.
use Rattle.sharing.proofs.Sharing.{Sharing}
use Rattle.sharing.proofs.count_sharing.Given as goal

abbrev pub invariant-loop-r : goal.invariant-loop-r
invariant-loop-r l = Sharing l.matrix l.cost l.column l.body l.seen l.count l.r-index
