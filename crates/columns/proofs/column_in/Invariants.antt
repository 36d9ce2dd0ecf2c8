-- The columns that are left give the column that is picked from all.
use Rattle.columns.proofs.Columns.{Picking}
use Rattle.columns.proofs.column_in.Given as goal

abbrev pub invariant-loop-j : goal.invariant-loop-j
invariant-loop-j l = Picking l.matrix l.cost l.column l.columns l.best l.j-index
