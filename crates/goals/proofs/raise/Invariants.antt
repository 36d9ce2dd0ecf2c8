-- The open rows that are left raise the bound as all of them do.
use Rattle.node.specs.View.{node_of}
use Rattle.goals.proofs.Raising.{Raising}
use Rattle.goals.proofs.raise.Given as goal

abbrev pub invariant-loop-i : goal.invariant-loop-i
invariant-loop-i l = Raising l.matrix (node_of l.cost l.column l.row l.bound) l.rows l.best l.i
