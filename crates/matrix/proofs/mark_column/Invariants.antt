-- The row numbers that are left mark what all of them mark.
use Rattle.matrix.proofs.Covered.{Marking}
use Rattle.matrix.proofs.mark_column.Given as goal

abbrev pub invariant-loop-row : goal.invariant-loop-row
invariant-loop-row l = Marking l.j l.body l.initial.cover l.cover l.row-index
