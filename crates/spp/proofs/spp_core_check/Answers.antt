-- The plan check's own equation, with its outcome in place of its answer.
use Rattle.spp.proofs.Low.{checking-fits}
use Rattle.spp.proofs.spp_core_check.Goals as goal

pub flat_checked-requires : goal.flat_checked-requires
flat_checked-requires c = rw c.check_plan-answer.ensures (checking-fits _ _)

pub returns : goal.returns
returns c = rw c.check_plan-answer.ensures at c.flat_checked.ensures
