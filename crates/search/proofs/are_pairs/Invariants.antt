-- The pairs before the place at hand have passed, so all do if those from there on do.
use Prim.Native.Nat.{◌*◌}
use Rattle.search.proofs.Paired.{Testing}
use Rattle.search.proofs.are_pairs.Given as goal

abbrev pub invariant-loop-k : goal.invariant-loop-k
invariant-loop-k l = Testing l.n l.pairs (2 * l.k)
