use Rattle.std.proofs.Common.{refl, arith}
use Rattle.dutyfile.proofs.Rising.{rising-at}
use Rattle.counts.proofs.Moving.{moving_next, moving_end, row_is}
use Rattle.counts.proofs.move_rows.Goals as goal

pub overflow_sub-i : goal.overflow_sub-i
overflow_sub-i c = omega (arith, rising-at 0 64 _ _ c.requires c.loop-row-test.true)

pub bounds-covered-i : goal.bounds-covered-i
bounds-covered-i c = omega (arith, rising-at 0 64 _ _ c.requires c.loop-row-test.true)

pub bounds-covered-i-in-loop-row : goal.bounds-covered-i-in-loop-row
bounds-covered-i-in-loop-row c = omega (arith, rising-at 0 64 _ _ c.requires c.loop-row-test.true)

pub loop-row-preserved : goal.loop-row-preserved
loop-row-preserved c =
    moving_next _ _ _ _ _ c.loop-row.invariant _ c.loop-row-test.true
    (row_is _ _ _ _ _ _ _ _ refl refl c.off_change.ensures refl)

pub returns : goal.returns
returns c = moving_end _ _ _ _ _ c.loop-row.invariant c.loop-row-test.false
