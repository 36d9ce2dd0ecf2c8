-- Three runs one after the other.
use mathlib.Core.Path.{◌≡◌, refl}
use Prim.Native.Nat.{◌+◌}
use native.Mathlib.Omega.{arith}
use Rattle.endian.specs.Bytes.{bytes16, bytes32}
use Rattle.signed.specs.Signed.{bits}
use Rattle.signed.proofs.Signs.{taken}
use Rattle.dutyfile.specs.File.{bodies_at}
use Rattle.render.proofs.Puts.{three-runs}
use Rattle.render.proofs.put_entry.Goals as goal

pub returns : goal.returns
returns c =
    let a = c.args in
    let q : bodies_at a.j + 6 ≡ bodies_at a.j + 4 + 2 = omega arith in
    three-runs (bodies_at a.j) _ _ (bytes32 (bits a.cost)) (bytes16 a.start) (bytes16 a.size) a.out.now c.put32.new.dst c.put16.new.dst _
    (rw (taken a.cost _ c.ranges.cost c.to_bits.ensures) at c.put32.ensures) c.put16.ensures c.put16-2.ensures refl q
