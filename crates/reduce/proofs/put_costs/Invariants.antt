use Rattle.reduce.proofs.Filled.{Copying}
use Rattle.reduce.proofs.put_costs.Given as goal

abbrev pub invariant-loop-j : goal.invariant-loop-j
invariant-loop-j l = Copying l.initial.dst l.src l.dst l.j
