-- The count so far and the free columns that are left make the whole.
use Rattle.forcing.proofs.Columns.{Counting}
use Rattle.forcing.proofs.free_count.Given as goal

abbrev pub invariant-loop-j : goal.invariant-loop-j
invariant-loop-j l = Counting l.column l.columns l.n l.j-index
