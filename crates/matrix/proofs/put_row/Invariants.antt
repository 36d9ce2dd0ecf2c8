-- The columns that are left to look at give what all of them give.
use Rattle.matrix.proofs.Collected.{Collecting}
use Rattle.matrix.proofs.put_row.Given as goal

abbrev pub invariant-loop-j : goal.invariant-loop-j
invariant-loop-j l = Collecting l.cover l.columns l.row l.initial.matrix l.at l.matrix l.end l.j
