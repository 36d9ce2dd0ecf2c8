-- The call's own clauses, with its outcome in place of its answer.
use Rattle.spp.proofs.spp_core_desk_empty.Goals as goal

pub returns : goal.returns
returns c = record { value = rw c.empty-made.ensures.result_value at c.flat_check.ensures; total_after = c.empty-made.ensures.total_after }
