-- The statistics so far are those of the free columns among the ones read; at the end, or once the row gives way, the better row is known.
use Rattle.choice.proofs.Tally.{Tallying}
use Rattle.choice.proofs.better_of.Given as goal

abbrev pub invariant-loop-j : goal.invariant-loop-j
invariant-loop-j l = Tallying l.cost l.column l.row l.i l.found l.j-index
