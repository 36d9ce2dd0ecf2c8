-- The rows that are left give what all of them give.
use Rattle.counts.specs.Counts.{counts_of}
use Rattle.counts.proofs.Moving.{Moving}
use Rattle.counts.proofs.move_rows.Given as goal

abbrev pub invariant-loop-row : goal.invariant-loop-row
invariant-loop-row l = Moving l.by l.body (counts_of l.initial.covered l.initial.off) (counts_of l.covered l.off) l.row-index
