-- The clauses for the sum are those of the call.
use borrow.Author.Rules.{rules}
use Rattle.rules.specs.Goals.{search_for}
use Rattle.search.specs.Requests.{answer_with, searching_with, plan_list_with}
use Rattle.search.specs.Goals.{answer_for, first_fault, searching_for, list_for, priced_for}
use Rattle.search.proofs.search.Goals as goal

pub search_for-requires : goal.search_for-requires
unfolding first_fault
search_for-requires c = search rules

pub returns : goal.returns
unfolding search_for priced_for answer_for searching_for list_for answer_with searching_with plan_list_with
returns c = record { result_value = c.search_for.ensures.result_value; plan_after = c.search_for.ensures.plan_after; signed_demand3 = c.search_for.ensures.demand_for }
