-- None of the columns before is free, so the first that is free among those left is the first of all.
use lib.ListN.{get_or}
use lib.Dec.{eqb}
use Rattle.node.proofs.Passes.{Seeking}
use Rattle.forcing.proofs.first_free.Given as goal

abbrev pub invariant-loop-j : goal.invariant-loop-j
invariant-loop-j l = Seeking (λ j. eqb (get_or l.column j 0) 1) l.columns l.j-index
