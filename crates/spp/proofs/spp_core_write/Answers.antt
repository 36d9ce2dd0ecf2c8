-- The writer's own equations, with its outcome in place of its answer.
use Rattle.spp.proofs.Low.{writing-fits}
use Rattle.spp.proofs.spp_core_write.Goals as goal

pub flat_written-requires : goal.flat_written-requires
flat_written-requires c = rw c.write-answer.ensures.result_value (writing-fits _ _)

pub returns : goal.returns
returns c = record { value = rw c.write-answer.ensures.result_value at c.flat_written.ensures; out_after = rw c.write-answer.ensures.result_value at c.write-answer.ensures.out_after }
