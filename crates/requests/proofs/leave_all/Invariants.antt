-- The columns that are left to be left give what all of them give.
use Rattle.requests.proofs.Loops.{Leaving}
use Rattle.requests.proofs.leave_all.Given as goal

abbrev pub invariant-loop-number : goal.invariant-loop-number
invariant-loop-number l = Leaving l.numbers l.initial.s l.s l.number-index
