-- The columns that are left change the marks as all of them do.
use Rattle.node.specs.Taking.{dropped}
use Rattle.node.proofs.Passes.{Carrying}
use Rattle.node.proofs.drop_columns.Given as goal

abbrev pub invariant-loop-j : goal.invariant-loop-j
invariant-loop-j l = Carrying dropped l.columns l.initial.column l.column l.j-index
