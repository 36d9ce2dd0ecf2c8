-- The call's own clauses, with its outcome in place of its answer; the struct shows the same answer.
use Rattle.flat_uncrewed.proofs.Back.{back}
use Rattle.spp.proofs.spp_core_uncrewed.Goals as goal

pub returns : goal.returns
returns c = record { value = rw c.uncrewed-found.ensures.result_value at c.flat_uncrewed.ensures; shown_after = rw c.uncrewed-found.ensures.result_value at c.uncrewed-found.ensures.shown_after; told = rw (back _ _ c.flat_uncrewed.ensures) c.uncrewed-found.ensures.told }
