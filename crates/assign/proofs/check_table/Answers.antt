-- The sizes are tested, then the costs, then the room.
use mathlib.Core.Path.{sym, ◌∙◌}
use Rattle.refusals.specs.Refusals.{fault_of}
use Rattle.refusals.proofs.Laws.{failed, fault_handed, passed}
use Rattle.assign.specs.Answer.{table_fault}
use Rattle.assign.proofs.Tests.{counts, cost_fails, room_fails, all_pass}
use Rattle.assign.proofs.check_table.Goals as goal

pub returns-in_err-check_sizes : goal.returns-in_err-check_sizes
unfolding table_fault
returns-in_err-check_sizes c = fault_handed _ _ c.from_residual.ensures.1 _ (failed c.check_sizes.ensures _ c.in_err-check_sizes.was)

pub costs_fit-requires : goal.costs_fit-requires
costs_fit-requires c =
    let k = counts _ _ (passed c.check_sizes.ensures c.in_ok-check_sizes.was) in
    (k.crews, k.vessels)

pub returns-then-not-costs_fit : goal.returns-then-not-costs_fit
unfolding fault_of
returns-then-not-costs_fit c = cost_fails _ _ _ _ (passed c.check_sizes.ensures c.in_ok-check_sizes.was) (sym c.costs_fit.ensures ∙ c.if-not-costs_fit.true)

pub returns-then-places-crews : goal.returns-then-places-crews
unfolding fault_of
returns-then-places-crews c =
    room_fails _ _ _ _ (passed c.check_sizes.ensures c.in_ok-check_sizes.was) (sym c.costs_fit.ensures ∙ c.if-not-costs_fit.false) c.if-places-crews.true

pub returns : goal.returns
unfolding fault_of
returns c =
    all_pass _ _ _ _ (passed c.check_sizes.ensures c.in_ok-check_sizes.was) (sym c.costs_fit.ensures ∙ c.if-not-costs_fit.false) c.if-places-crews.false
