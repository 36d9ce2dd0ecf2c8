-- The assigning call's own clauses, with its outcome in place of its answer; the struct shows the same answer.
use Rattle.flat_assign.proofs.Back.{back}
use Rattle.spp.proofs.spp_core_assign.Goals as goal

pub returns : goal.returns
returns c = record { value = rw c.assign-found.ensures.result_value at c.flat_assigned.ensures; answer_after = rw c.assign-found.ensures.result_value at c.assign-found.ensures.answer_after; assigned = rw (back _ _ c.flat_assigned.ensures) c.assign-found.ensures.assigned }
