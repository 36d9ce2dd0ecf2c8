-- The columns of the trials are tested, then the list's room and the node limit.
use mathlib.Core.Path.{sym, ◌∙◌}
use Rattle.refusals.proofs.Laws.{failed, continues, fault_handed}
use Rattle.uncrewed.specs.Answer.{uncrewed_fault}
use Rattle.uncrewed.proofs.check_uncrewed.Goals as goal

pub returns-in_err-check_trials : goal.returns-in_err-check_trials
unfolding uncrewed_fault
returns-in_err-check_trials c = fault_handed _ _ c.from_residual.ensures.1 _ (failed c.check_trials.ensures _ c.in_err-check_trials.was)

pub returns : goal.returns
unfolding uncrewed_fault
returns c = c.check_call.ensures ∙ sym (continues c.check_trials.ensures _ c.in_ok-check_trials.was)
