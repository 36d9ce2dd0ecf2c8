-- What is left to write, column by column.
use Rattle.raising.proofs.Table.{Filling}
use Rattle.raising.proofs.raise_all.Given as goal

abbrev pub invariant-loop-j : goal.invariant-loop-j
invariant-loop-j l = Filling l.edition l.costs l.lengths l.table l.j
