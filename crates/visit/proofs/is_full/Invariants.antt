-- The first open row ends the loop; where none is left to be seen, none is open.
use Rattle.node.specs.Stored.{matrix_in}
use Rattle.visit.proofs.Full.{Seen}
use Rattle.visit.proofs.is_full.Given as goal

abbrev pub invariant-loop-i : goal.invariant-loop-i
invariant-loop-i l = Seen (matrix_in l.matrix) l.row l.rows l.i
