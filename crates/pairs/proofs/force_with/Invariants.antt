-- The node at hand comes to what the first one does, and each step leaves fewer free columns.
use Rattle.node.specs.Stored.{matrix_in}
use Rattle.rules.proofs.Rows.{size}
use Rattle.pairs.proofs.Settling.{Settling}
use Rattle.pairs.proofs.force_with.Given as goal

abbrev pub invariant-loop-s : goal.invariant-loop-s
invariant-loop-s l = Settling l.goal l.side l.matrix l.initial.s l.s

abbrev pub decreases-loop-s : goal.decreases-loop-s
decreases-loop-s l = size (matrix_in l.matrix) l.s
