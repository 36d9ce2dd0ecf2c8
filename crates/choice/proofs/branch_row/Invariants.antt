-- The open rows that are left give the row that is picked from all.
use Rattle.node.specs.View.{view}
use Rattle.choice.proofs.Rows.{Choosing}
use Rattle.choice.proofs.branch_row.Given as goal

abbrev pub invariant-loop-i : goal.invariant-loop-i
invariant-loop-i l = Choosing l.matrix (view l.cost l.column l.row) l.rows l.best l.i
