-- The first open row ends the loop; where none is left to be seen, none is open.
use Rattle.visit.proofs.Full.{seen_start, seen_next, seen_open, seen_end}
use Rattle.visit.proofs.is_full.Goals as goal

pub loop-i-init : goal.loop-i-init
loop-i-init c = seen_start _ _ _ c.requires.small.fits.tall c.row_count-rows.ensures

pub returns-then-row-i-eq1 : goal.returns-then-row-i-eq1
returns-then-row-i-eq1 c = seen_open _ _ _ _ c.loop-i.invariant c.loop-i-test.true c.if-row-i-eq1.true

pub loop-i-preserved : goal.loop-i-preserved
loop-i-preserved c = seen_next _ _ _ _ c.loop-i.invariant c.loop-i-test.true c.if-row-i-eq1.false

pub returns : goal.returns
returns c = seen_end _ _ _ _ c.loop-i.invariant c.loop-i-test.false
