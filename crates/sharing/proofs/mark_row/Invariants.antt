-- The marks so far are those of the columns read that are free and at cost 0.
use Rattle.candidates.specs.Row.{zero_in}
use Rattle.sharing.proofs.Seen.{Marking}
use Rattle.sharing.proofs.mark_row.Given as goal

abbrev pub invariant-loop-j : goal.invariant-loop-j
invariant-loop-j l = Marking (zero_in l.cost l.column) l.row l.initial.seen l.seen l.count l.j-index
