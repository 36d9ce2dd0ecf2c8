-- The trials that are left give what all of them give.
use Rattle.uncrewed.proofs.Running.{Running}
use Rattle.uncrewed.proofs.run_trials.Given as goal

abbrev pub invariant-loop-k : goal.invariant-loop-k
invariant-loop-k l = Running l.found l.costs l.lengths l.numbers l.limit l.initial.shown l.shown l.plan l.k
