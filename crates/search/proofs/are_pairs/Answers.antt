use mathlib.Core.Path.{◌≡◌}
use Prim.Native.Nat.{◌+◌, ◌*◌}
use native.Mathlib.Omega.{arith}
use Rattle.search.proofs.Paired.{testing_start, testing_fails, testing_next, testing_end}
use Rattle.search.proofs.are_pairs.Goals as goal

pub loop-k-init : goal.loop-k-init
loop-k-init c = testing_start _ _

pub returns-then-not-is_pair : goal.returns-then-not-is_pair
returns-then-not-is_pair c = testing_fails _ _ _ c.loop-k.invariant (omega (arith, c.loop-k-test.true)) _ (rw (c.from-a.ensures, c.from-b.ensures) at c.is_pair.ensures) (c.if-not-is_pair.true)

pub loop-k-preserved : goal.loop-k-preserved
loop-k-preserved c =
    let e : 2 * c.loop-k.k + 2 ≡ 2 * (c.loop-k.k + 1) = omega arith in
    rw e at (testing_next _ _ _ c.loop-k.invariant (omega (arith, c.loop-k-test.true)) _ (rw (c.from-a.ensures, c.from-b.ensures) at c.is_pair.ensures) (c.if-not-is_pair.false))

pub returns : goal.returns
returns c = testing_end _ _ _ c.loop-k.invariant (omega (arith, c.loop-k-test.false))
