-- The column found so far, if there is one, and those at cost 0 that are left make the whole, and a second one ends it.
use Rattle.candidates.specs.Row.{zero_in}
use Rattle.columns.proofs.Only.{Lone}
use Rattle.columns.proofs.only_zero.Given as goal

abbrev pub invariant-loop-j : goal.invariant-loop-j
invariant-loop-j l = Lone (zero_in l.cost l.column) l.columns l.found l.j-index
