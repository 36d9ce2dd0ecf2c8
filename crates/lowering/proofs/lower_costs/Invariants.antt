-- The columns that are left to lower give what all of them give.
use Rattle.lowering.proofs.Lowered.{Lowering}
use Rattle.lowering.proofs.lower_costs.Given as goal

abbrev pub invariant-loop-k : goal.invariant-loop-k
invariant-loop-k l = Lowering l.column l.initial.cost l.amount l.row l.cost l.k
