-- Reducing from the present node gives what reducing from the first one gives.
use Prim.Native.Nat.{◌-◌}
use Rattle.lowering.proofs.Looped.{Reducing}
use Rattle.lowering.proofs.reduce_node.Given as goal

abbrev pub invariant-loop-best : goal.invariant-loop-best
invariant-loop-best l = Reducing l.matrix l.initial.node l.node l.left l.used l.count l.best

abbrev pub decreases-loop-best : goal.decreases-loop-best
decreases-loop-best l = 64 - l.count
