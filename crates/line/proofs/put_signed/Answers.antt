-- A number below 0 has its sign after the space.
use mir.Syntax.{w64}
use Rattle.signed.proofs.Signs.{under, over}
use Rattle.line.proofs.Puts.{put_under, put_over}
use Rattle.line.proofs.put_signed.Goals as goal

pub returns-then-z-lt0-clause-put : goal.returns-then-z-lt0-clause-put
returns-then-z-lt0-clause-put c =
    let z = c.args.z in
    put_under z c.ranges.z _ _ _ _ _ c.magnitude-n.ensures (under w64 tt z c.ranges.z c.if-z-lt0.true) _ c.put.ensures c.put_digits.ensures.put

pub returns-clause-put : goal.returns-clause-put
returns-clause-put c =
    let z = c.args.z in
    put_over z c.ranges.z _ _ _ _ _ c.magnitude-n.ensures (over w64 tt z c.ranges.z c.if-z-lt0.false) c.put_number.ensures.put
