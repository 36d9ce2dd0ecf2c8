-- The call's own clause; the total is read back from its bits.
use mir.Facts.{to_z-of_z}
use Rattle.spp.proofs.spp_core_desk_reply.Goals as goal

pub returns : goal.returns
returns c = rw (c.reply.ensures, to_z-of_z c.ranges.total) at c.flat_reply.ensures
