-- The costs that are left give, with the sum so far, the whole sum.
use Rattle.verify.proofs.Walk.{Costing}
use Rattle.verify.proofs.total_cost.Given as goal

abbrev pub invariant-loop-number : goal.invariant-loop-number
invariant-loop-number l = Costing l.file l.columns l.cost l.number-index
