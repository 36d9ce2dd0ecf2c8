-- The rows that are left to put give what all of them give.
use Rattle.matrix.proofs.Putting.{PuttingRows}
use Rattle.matrix.proofs.put_rows.Given as goal

abbrev pub invariant-loop-i : goal.invariant-loop-i
invariant-loop-i l = PuttingRows l.cover l.columns l.rows l.initial.matrix l.at l.matrix l.end l.i
