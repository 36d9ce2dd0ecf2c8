-- The places that are filled hold the costs less the bound.
use Rattle.goals.proofs.Costs.{Netting}
use Rattle.goals.proofs.present.Given as goal

abbrev pub invariant-loop-j : goal.invariant-loop-j
invariant-loop-j l = Netting l.cost l.bound l.net l.j
