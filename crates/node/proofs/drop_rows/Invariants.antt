-- The rows that are left change the marks as all of them do.
use Prim.Native.Nat.{◌-◌}
use Rattle.node.proofs.Passes.{Carrying}
use Rattle.node.specs.Stored.{matrix_in, row_columns}
use Rattle.node.specs.Taking.{all_dropped}
use Rattle.node.proofs.drop_rows.Given as goal

abbrev pub invariant-loop-r : goal.invariant-loop-r
invariant-loop-r l = Carrying (λ marks r. all_dropped (row_columns (matrix_in l.matrix) (r - 1)) marks) l.body l.initial.column l.column l.r-index
