use Rattle.matrix.proofs.Covered.{marking_next, marking_end}
use Rattle.matrix.proofs.mark_column.Goals as goal

pub loop-row-preserved : goal.loop-row-preserved
loop-row-preserved c = marking_next _ _ _ _ _ c.loop-row.invariant c.loop-row-test.true

pub returns : goal.returns
returns c = marking_end _ _ _ _ _ c.loop-row.invariant c.loop-row-test.false
