-- A file is read, then the call's tests are made; only where all pass is the matrix searched and is a plan written.
use mathlib.Core.Path.{ap, sym, ◌∙◌}
use Rattle.std.specs.Prelude.{Ok}
use Rattle.refusals.specs.Refusals.{accepted}
use Rattle.refusals.proofs.Laws.{failed, passed, handed_on, keeps, refused_none}
use Rattle.answer.specs.Answer.{search_outcome}
use Rattle.search.proofs.Called.{rooted, refused-file, refused-call, begins, searchable, few-rows, plan-fits, given-answer, given-plan, given_demand}
use Rattle.lists.proofs.Read.{file-refused}
use Rattle.search.proofs.search_for.Goals as goal

pub slice_bounds-root_node-end : goal.slice_bounds-root_node-end
slice_bounds-root_node-end c = sym (c.read_matrix.ensures.loaded _ c.in_ok-found.was).long

pub root_node-root-requires : goal.root_node-root-requires
root_node-root-requires c = (c.read_matrix.ensures.loaded _ c.in_ok-found.was).kept

pub slice_bounds-begin-end : goal.slice_bounds-begin-end
slice_bounds-begin-end c = sym (c.read_matrix.ensures.loaded _ c.in_ok-found.was).long

pub begin-start-requires : goal.begin-start-requires
begin-start-requires c =
    begins _ _ _ _ _ _ _ _
    (rooted (c.read_matrix.ensures.loaded _ c.in_ok-found.was) (passed c.check_call_with.ensures c.in_ok-check_call_with.was) c.root_node-root.ensures)

pub slice_bounds-search_from-end : goal.slice_bounds-search_from-end
slice_bounds-search_from-end c = sym (c.read_matrix.ensures.loaded _ c.in_ok-found.was).long

pub search_from-done-requires : goal.search_from-done-requires
search_from-done-requires c =
    searchable _ _ _ _ _ _ _ _
    (rooted (c.read_matrix.ensures.loaded _ c.in_ok-found.was) (passed c.check_call_with.ensures c.in_ok-check_call_with.was) c.root_node-root.ensures)
    _ c.begin-start.ensures

pub shift-added-requires : goal.shift-added-requires
shift-added-requires c =
    few-rows _ _ _ _ _ _ _
    (rooted (c.read_matrix.ensures.loaded _ c.in_ok-found.was) (passed c.check_call_with.ensures c.in_ok-check_call_with.was) c.root_node-root.ensures)

pub give-requires : goal.give-requires
give-requires c =
    plan-fits _ _ _ _ _ _ _ _
    (rooted (c.read_matrix.ensures.loaded _ c.in_ok-found.was) (passed c.check_call_with.ensures c.in_ok-check_call_with.was) c.root_node-root.ensures)
    _ c.begin-start.ensures _ c.search_from-done.ensures

pub returns-in_err-found : goal.returns-in_err-found
unfolding search_outcome
returns-in_err-found c =
    let o = ap search_outcome (handed_on _ _ c.from_residual.ensures.1) in
    record {
      result_value = o ∙ refused-file _ _ _ _ _ _ (file-refused _ _ c.read_matrix.ensures.result_value _ c.in_err-found.was);
      plan_after = keeps _ _ _ o;
      demand_for = λ v e. absurd (refused_none _ v (sym o ∙ e));
    }

pub returns-in_err-check_call_with : goal.returns-in_err-check_call_with
unfolding search_outcome
returns-in_err-check_call_with c =
    let o = ap search_outcome (handed_on _ _ c.from_residual-in_err-check_call_with.ensures.1) in
    record {
      result_value = o ∙ refused-call _ _ _ _ _ _ _ _ (c.read_matrix.ensures.loaded _ c.in_ok-found.was) _ (failed c.check_call_with.ensures _ c.in_err-check_call_with.was);
      plan_after = keeps _ _ _ o;
      demand_for = λ v e. absurd (refused_none _ v (sym o ∙ e));
    }

pub returns : goal.returns
unfolding search_outcome
returns c =
    let w = rooted (c.read_matrix.ensures.loaded _ c.in_ok-found.was) (passed c.check_call_with.ensures c.in_ok-check_call_with.was) c.root_node-root.ensures in
    let i = c.begin-start.ensures in
    let x = c.search_from-done.result in
    let e = c.search_from-done.ensures in
    let so = c.shift-added.ensures in
    let told = ap accepted c.give.ensures.result_value in
    record {
      result_value = given-answer _ _ _ _ _ _ _ _ w _ i x e (Ok c.give.result) _ so told;
      plan_after = given-plan _ _ _ _ _ _ _ _ w _ i x e (Ok c.give.result) _ so told _ _ c.give.ensures.plan_after;
      demand_for = given_demand _ _ _ _ _ _ _ _ w _ i x e (Ok c.give.result) _ so told c.requires _ _ c.give.ensures.plan_after;
    }
