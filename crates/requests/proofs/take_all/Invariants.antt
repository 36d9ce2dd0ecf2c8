-- The columns that are left to be taken give what all of them give.
use Rattle.requests.proofs.Loops.{Taking}
use Rattle.requests.proofs.take_all.Given as goal

abbrev pub invariant-loop-number : goal.invariant-loop-number
invariant-loop-number l = Taking l.goal l.matrix l.agreed l.absent l.initial.s l.s l.number-index
