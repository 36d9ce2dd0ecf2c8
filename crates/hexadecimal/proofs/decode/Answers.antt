use mathlib.Core.Path.{◌≡◌}
use Prim.Native.Nat.{◌+◌, ◌-◌, ◌*◌}
use native.Mathlib.Omega.{arith}
use Rattle.hexadecimal.proofs.Laws.{left_end, decoding_start, decoding_next, decoded_all}
use Rattle.hexadecimal.proofs.decode.Goals as goal

pub loop-k-init : goal.loop-k-init
loop-k-init c = decoding_start _ _

pub loop-k-preserved : goal.loop-k-preserved
loop-k-preserved c =
    let k = c.loop-k.k in
    let next : 2 * k + 2 + 2 ≡ 2 * (k + 1) + 2 = omega arith in
    let first : 2 * k + 1 ≡ 2 * k + 2 - 1 = omega arith in
    rw next at (decoding_next _ _ _ _ _ c.loop-k.invariant (omega arith) (omega arith) _ (rw first at c.byte.ensures))

pub returns-clause-value : goal.returns-clause-value
returns-clause-value c = omega (arith, (decoded_all _ _ _ _ _ c.loop-k.invariant (left_end _ _ c.loop-k.k (omega arith))).1)

pub returns-clause-file_after : goal.returns-clause-file_after
returns-clause-file_after c = (decoded_all _ _ _ _ _ c.loop-k.invariant (left_end _ _ c.loop-k.k (omega arith))).0
