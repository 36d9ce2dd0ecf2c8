-- The statistics so far are those of the free columns among the ones read; at the end, or once the row gives way, the better row is known.
use native.Mathlib.Omega.{arith}
use Rattle.choice.proofs.Criteria.{stays_best}
use Rattle.choice.proofs.Tally.{tallying_start, tallying_few, tallying_free, tallying_other, tallying_zeros}
use Rattle.choice.proofs.better_of.Goals as goal
use Rattle.choice.proofs.better_of.Goals.{then-column-j-eq1+else-best-found, else-column-j-eq1}

pub loop-j-init : goal.loop-j-init
loop-j-init c = tallying_start _ _ _ _

pub join-found-requires : goal.join-found-requires
join-found-requires c = tallying_few _ _ _ _ _ _ c.loop-j.invariant c.loop-j-test.true c.requires.1

pub returns-then-best-found : goal.returns-then-best-found
returns-then-best-found c =
    let w = tallying_free _ _ _ _ _ _ c.loop-j.invariant c.loop-j-test.true c.if-column-j-eq1.true _ c.join-found.ensures in
    stays_best _ _ (omega (arith, tallying_zeros _ _ _ _ _ _ w, c.if-best-found.true))

pub loop-j-preserved : goal.loop-j-preserved
loop-j-preserved c = elim c.if-column-j-eq1.branch [
  | then-column-j-eq1+else-best-found w ↦ rw w.found-is (tallying_free _ _ _ _ _ _ c.loop-j.invariant c.loop-j-test.true w.if-column-j-eq1.true _ w.join-found.ensures)
  | else-column-j-eq1 w ↦ rw w.found-is (tallying_other _ _ _ _ _ _ c.loop-j.invariant c.loop-j-test.true w.if-column-j-eq1.false)
]
