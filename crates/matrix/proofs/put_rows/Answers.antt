use Rattle.matrix.proofs.Putting.{rows-room, rows_next, rows_end}
use Rattle.matrix.proofs.put_rows.Goals as goal

pub put_row-end-requires : goal.put_row-end-requires
put_row-end-requires c = rows-room _ _ _ _ _ _ _ _ c.loop-i.invariant c.loop-i-test.true

pub loop-i-preserved : goal.loop-i-preserved
loop-i-preserved c = rows_next _ _ _ _ _ _ _ _ c.loop-i.invariant c.loop-i-test.true _ _ c.put_row-end.ensures.value c.put_row-end.ensures.matrix_after

pub returns : goal.returns
returns c = rows_end _ _ _ _ _ _ _ _ c.loop-i.invariant c.loop-i-test.false
