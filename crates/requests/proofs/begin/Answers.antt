-- The absent columns are left, then the agreed ones are taken.
use Rattle.requests.proofs.Loops.{begins_takeable, begins-is}
use Rattle.requests.proofs.begin.Goals as goal

pub take_all-requires : goal.take_all-requires
take_all-requires c = begins_takeable _ _ _ _ _ c.requires _ c.leave_all-fewer.ensures

pub returns : goal.returns
returns c = begins-is _ _ _ _ _ c.requires _ c.leave_all-fewer.ensures _ c.take_all.ensures
