-- The pairs that are left to be gone through give what all of them give.
use Rattle.pairs.proofs.Passing.{Passing}
use Rattle.pairs.proofs.pass_pairs.Given as goal

abbrev pub invariant-loop-first : goal.invariant-loop-first
invariant-loop-first l = Passing l.goal l.matrix l.pairs l.first-items l.initial.s l.s l.first-index
