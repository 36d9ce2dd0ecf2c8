-- The statistics so far are those of the free columns among the ones read.
use Rattle.node.specs.Stored.{matrix_in}
use Rattle.candidates.proofs.Tally.{Tallying}
use Rattle.candidates.proofs.statistics.Given as goal

abbrev pub invariant-loop-j : goal.invariant-loop-j
invariant-loop-j l = Tallying (matrix_in l.matrix) l.cost l.column l.row l.i l.found l.j-index
