-- The search call's own clauses, with its outcome in place of its answer; what the struct says is what is answered.
use Rattle.spp.proofs.Low.{searching-fits}
use Rattle.spp.proofs.Seen.{values_hold}
use Rattle.spp.proofs.spp_core_search.Goals as goal

pub flat_answer-requires : goal.flat_answer-requires
flat_answer-requires c = rw c.search-answer.ensures.result_value (searching-fits _ _ _ _)

pub returns : goal.returns
returns c = record { value = rw c.search-answer.ensures.result_value at c.flat_answer.ensures; plan_after = rw c.search-answer.ensures.result_value at c.search-answer.ensures.plan_after; signed_demand3 = values_hold _ _ c.search-answer.ensures.signed_demand3 _ c.flat_answer.ensures }
