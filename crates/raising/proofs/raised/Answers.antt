use Rattle.std.proofs.Common.{refl, arith, to_z-of_z}
use Rattle.raising.proofs.Bits.{raised-bits}
use Rattle.raising.proofs.raised.Goals as goal

pub returns : goal.returns
returns c =
    let sum = rw (to_z-of_z c.ranges.cost) at c.wrapping_add_signed.ensures in
    raised-bits _ _ _ _ _ _ c.requires refl c.shift.ensures (omega (arith, sum))
