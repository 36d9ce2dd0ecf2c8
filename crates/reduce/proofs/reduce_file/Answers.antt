-- A file is read, then the lists' room is tested; only where both pass is the file's root reduced and are the lists filled.
use mathlib.Core.Path.{refl, ap, sym, ◌∙◌}
use Rattle.refusals.specs.Refusals.{outcome, filled}
use Rattle.refusals.proofs.Laws.{failed, passed, keeps, refuses, handed_on}
use Rattle.reduce.proofs.Called.{refused-file, refused-lists, lists-room, given-bound, given-costs, given-rows}
use Rattle.reduce.proofs.reduce_file.Goals as goal

pub slice_bounds-root_node-end : goal.slice_bounds-root_node-end
slice_bounds-root_node-end c = sym (c.in_ok-found.ensures.loaded _ refl).long

pub root_node-root-requires : goal.root_node-root-requires
root_node-root-requires c = (c.in_ok-found.ensures.loaded _ refl).kept

pub slice_bounds-reduce_node-end : goal.slice_bounds-reduce_node-end
slice_bounds-reduce_node-end c = sym (c.in_ok-found.ensures.loaded _ refl).long

pub reduce_node-done-requires : goal.reduce_node-done-requires
reduce_node-done-requires c = rw c.root_node-root.ensures (c.in_ok-found.ensures.loaded _ refl).workable

pub give-requires : goal.give-requires
give-requires c =
    lists-room _ _ _ _ _ _ (c.in_ok-found.ensures.loaded _ refl) _ c.root_node-root.ensures (passed c.check_lists.ensures c.in_ok-check_lists.was) _
    c.reduce_node-done.ensures

pub returns-in_err-found : goal.returns-in_err-found
unfolding outcome filled
returns-in_err-found c =
    let o = ap outcome (handed_on _ _ c.from_residual.ensures.1) in
    record { result_value = o ∙ refused-file _ _ _ _ (refuses _ _ _ (sym c.in_err-found.ensures.result_value)); reduced_after = keeps _ _ _ o; order_after = keeps _ _ _ o }

pub returns-in_err-check_lists : goal.returns-in_err-check_lists
unfolding outcome filled
returns-in_err-check_lists c =
    let o = ap outcome (handed_on _ _ c.from_residual-in_err-check_lists.ensures.1) in
    record {
      result_value = o ∙ refused-lists _ _ _ _ _ _ (c.in_ok-found.ensures.loaded _ refl) _ (failed c.check_lists.ensures _ c.in_err-check_lists.was);
      reduced_after = keeps _ _ _ o;
      order_after = keeps _ _ _ o;
    }

pub returns : goal.returns
unfolding outcome
returns c =
    let k = c.in_ok-found.ensures.loaded _ refl in
    let p = passed c.check_lists.ensures c.in_ok-check_lists.was in
    let r = c.root_node-root.ensures in
    let e = c.reduce_node-done.ensures in
    record {
      result_value = given-bound _ _ _ _ _ _ k _ r p _ e _ c.give.ensures.value;
      reduced_after = given-costs _ _ _ _ _ _ k _ r p _ e _ c.give.ensures.value _ _ c.give.ensures.reduced_after;
      order_after = given-rows _ _ _ _ _ _ k _ r p _ e _ c.give.ensures.value _ _ c.give.ensures.order_after;
    }
