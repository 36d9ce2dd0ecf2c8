-- The rows that are left to count give what all of them give.
use Rattle.verify.proofs.Counting.{Counting}
use Rattle.verify.proofs.count_rows.Given as goal

abbrev pub invariant-loop-number : goal.invariant-loop-number
invariant-loop-number l = Counting l.body l.initial.covered l.covered l.number-index
