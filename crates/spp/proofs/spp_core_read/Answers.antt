-- The reader's own equations, with its outcome in place of its answer.
use Rattle.spp.proofs.Low.{reading-fits}
use Rattle.spp.proofs.spp_core_read.Goals as goal

pub flat_shape-requires : goal.flat_shape-requires
flat_shape-requires c = rw c.read-answer.ensures.result_value (reading-fits _ _ _ _)

pub returns : goal.returns
returns c = record { value = rw c.read-answer.ensures.result_value at c.flat_shape.ensures; costs_after = rw c.read-answer.ensures.result_value at c.read-answer.ensures.costs_after; lengths_after = rw c.read-answer.ensures.result_value at c.read-answer.ensures.lengths_after; rows_after = rw c.read-answer.ensures.result_value at c.read-answer.ensures.rows_after }
