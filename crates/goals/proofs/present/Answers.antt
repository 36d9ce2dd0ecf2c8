-- The places that are filled hold the costs less the bound.
use Rattle.goals.proofs.Costs.{netting_end}
use Rattle.goals.proofs.present.Goals as goal

pub returns : goal.returns
returns c = netting_end _ _ _ _ c.loop-j.invariant c.loop-j-test.false
