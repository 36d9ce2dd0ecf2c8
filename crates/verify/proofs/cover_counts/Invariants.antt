-- The columns that are left to count give what all of them give.
use Rattle.verify.proofs.Walk.{Covering}
use Rattle.verify.proofs.cover_counts.Given as goal

abbrev pub invariant-loop-number : goal.invariant-loop-number
invariant-loop-number l = Covering l.file l.columns l.covered l.number-index
