-- The row numbers that are left close what all of them close.
use Prim.Native.Nat.{◌-◌}
use lib.ListN.{set}
use Rattle.node.proofs.Passes.{Carrying}
use Rattle.node.proofs.close_rows.Given as goal

abbrev pub invariant-loop-r : goal.invariant-loop-r
invariant-loop-r l = Carrying (λ marks r. set marks (r - 1) 0) l.body l.initial.row l.row l.r-index
