-- The open rows that are left give what all of them ask.
use mathlib.Core.List.{[]}
use Rattle.node.specs.View.{view}
use Rattle.forcing.proofs.Asking.{Asking}
use Rattle.forcing.proofs.open_rows_ask.Given as goal

abbrev pub invariant-loop-i : goal.invariant-loop-i
invariant-loop-i l = Asking l.matrix (view [] l.column l.row) l.rows l.found l.i
