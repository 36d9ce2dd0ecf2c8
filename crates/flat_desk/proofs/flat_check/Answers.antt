-- By the arms of the match.
use Rattle.refusals.specs.Refusals.{fault_of}
use Rattle.flat_desk.specs.Struct.{fault_number}
use Rattle.flat_desk.proofs.flat_check.Goals as goal

pub returns-in-Ok : goal.returns-in-Ok
unfolding fault_number fault_of
returns-in-Ok c = rw c.in-Ok.is

pub returns-in-Err : goal.returns-in-Err
unfolding fault_number fault_of
returns-in-Err c = rw (c.from.ensures, c.in-Err.is)
