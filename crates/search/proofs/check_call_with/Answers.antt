-- The list's room and the node limit are tested, then the lists of columns.
use mathlib.Core.Path.{sym, ◌∙◌}
use Rattle.refusals.proofs.Laws.{failed, continues, fault_handed}
use Rattle.search.specs.Requests.{call_fault_with}
use Rattle.search.proofs.check_call_with.Goals as goal

pub returns-in_err-check_call : goal.returns-in_err-check_call
unfolding call_fault_with
returns-in_err-check_call c = fault_handed _ _ c.from_residual.ensures.1 _ (failed c.check_call.ensures _ c.in_err-check_call.was)

pub returns : goal.returns
unfolding call_fault_with
returns c = c.check_requests.ensures ∙ sym (continues c.check_call.ensures _ c.in_ok-check_call.was)
