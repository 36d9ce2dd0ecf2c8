-- The call's own clauses, with its outcome in place of its answer.
use Rattle.spp.proofs.spp_core_desk_remove.Goals as goal

pub returns : goal.returns
returns c = record { value = rw c.remove-said.ensures.result_value at c.flat_step.ensures; total_after = c.remove-said.ensures.total_after }
