-- The rows that are left, among those marked, give the best candidate of all; a row with a free column at cost 0 is closed.
use Rattle.node.specs.Stored.{matrix_in}
use Rattle.candidates.proofs.Best.{Choosing}
use Rattle.candidates.proofs.best_candidate.Given as goal

abbrev pub invariant-loop-i : goal.invariant-loop-i
invariant-loop-i l = Choosing l.matrix l.cost l.column l.initial.row l.row (matrix_in l.matrix).rows l.best l.i
