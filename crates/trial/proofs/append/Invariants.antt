-- The rows that are left to append give what all of them give.
use Prim.Native.Nat.{suc}
use Rattle.node.specs.Lists.{from}
use Rattle.matrix.proofs.Putting.{Copying}
use Rattle.trial.proofs.append.Given as goal

abbrev pub invariant-loop-i : goal.invariant-loop-i
invariant-loop-i l = Copying (from l.extra (suc l.k)) l.initial.numbers l.found.entries l.numbers l.i
