use Rattle.answer.proofs.Order.{lowered-fits, lowered_is}
use Rattle.answer.proofs.lowered.Goals as goal

pub overflow_sub-result : goal.overflow_sub-result
overflow_sub-result c = rw (c.from.ensures, c.from-2.ensures) (lowered-fits _ _ c.ranges.cost c.ranges.added)

pub returns : goal.returns
returns c = rw (c.from.ensures, c.from-2.ensures) (lowered_is _ _ c.ranges.cost c.ranges.added)
