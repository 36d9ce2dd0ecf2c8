-- The reducing call's own equations, with its outcome in place of its answer.
use Rattle.spp.proofs.Low.{reducing-fits}
use Rattle.spp.proofs.spp_core_reduce.Goals as goal

pub flat_reduced-requires : goal.flat_reduced-requires
flat_reduced-requires c = rw c.reduce-answer.ensures.result_value (reducing-fits _ _ _)

pub returns : goal.returns
returns c = record { value = rw c.reduce-answer.ensures.result_value at c.flat_reduced.ensures; reduced_after = rw c.reduce-answer.ensures.result_value at c.reduce-answer.ensures.reduced_after; order_after = rw c.reduce-answer.ensures.result_value at c.reduce-answer.ensures.order_after }
