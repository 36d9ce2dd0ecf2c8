-- No pair before the place at hand asks anything, so some pair does if one from there on does.
use Rattle.pairs.proofs.Passing.{Looking}
use Rattle.pairs.proofs.some_asks.Given as goal

abbrev pub invariant-loop-first : goal.invariant-loop-first
invariant-loop-first l = Looking l.column l.pairs l.first-items l.first-index
