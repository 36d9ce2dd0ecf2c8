-- The columns that are left to look at give what all of them give.
use Rattle.answer.proofs.Putting.{Putting}
use Rattle.answer.proofs.put_plan.Given as goal

abbrev pub invariant-loop-j : goal.invariant-loop-j
invariant-loop-j l = Putting l.marks l.columns l.initial.plan l.plan l.count l.j
