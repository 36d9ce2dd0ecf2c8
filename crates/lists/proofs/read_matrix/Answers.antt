-- The lists are read, and where the file is accepted the matrix list is built of their parts, and the costs are raised.
use mathlib.Core.Path.{ap, refl, ◌∙◌}
use native.Mathlib.Omega.{arith}
use Rattle.refusals.specs.Refusals.{outcome, filled}
use Rattle.refusals.proofs.Laws.{handed_on, keeps}
use Rattle.lists.proofs.Read.{file-listed}
use Rattle.lists.proofs.Loading.{refuses_only, parts_statable, parts-priced, parts-raised, loaded_as}
use Rattle.lists.proofs.read_matrix.Goals as goal

pub slice_bounds-fill_matrix-end : goal.slice_bounds-fill_matrix-end
slice_bounds-fill_matrix-end c = let r = c.read_lists.ensures in omega (arith, (file-listed _ _ r.result_value _ c.in_ok-found.was _ _ _ _ _ _ r.costs_after r.lengths_after r.numbers_after).columns)

pub slice_bounds-fill_matrix-end-2 : goal.slice_bounds-fill_matrix-end-2
slice_bounds-fill_matrix-end-2 c = let r = c.read_lists.ensures in omega (arith, (file-listed _ _ r.result_value _ c.in_ok-found.was _ _ _ _ _ _ r.costs_after r.lengths_after r.numbers_after).entries)

pub slice_bounds-fill_costs-end : goal.slice_bounds-fill_costs-end
slice_bounds-fill_costs-end c = let r = c.read_lists.ensures in omega (arith, (file-listed _ _ r.result_value _ c.in_ok-found.was _ _ _ _ _ _ r.costs_after r.lengths_after r.numbers_after).columns)

pub slice_bounds-fill_costs-end-2 : goal.slice_bounds-fill_costs-end-2
slice_bounds-fill_costs-end-2 c = let r = c.read_lists.ensures in omega (arith, (file-listed _ _ r.result_value _ c.in_ok-found.was _ _ _ _ _ _ r.costs_after r.lengths_after r.numbers_after).columns)

pub fill_matrix-requires : goal.fill_matrix-requires
fill_matrix-requires c =
    let r = c.read_lists.ensures in
    parts_statable _ _ _ _ _ (file-listed _ _ r.result_value _ c.in_ok-found.was _ _ _ _ _ _ r.costs_after r.lengths_after r.numbers_after)

pub fill_costs-requires : goal.fill_costs-requires
fill_costs-requires c =
    let r = c.read_lists.ensures in
    parts-priced _ _ _ _ _ (file-listed _ _ r.result_value _ c.in_ok-found.was _ _ _ _ _ _ r.costs_after r.lengths_after r.numbers_after)

pub returns-in_err-found : goal.returns-in_err-found
unfolding outcome filled
returns-in_err-found c =
    let is = handed_on _ _ c.from_residual.ensures.1 in
    let o = ap outcome is in
    record { result_value = o ∙ c.in_err-found.ensures.result_value; costs_after = keeps _ _ _ o; matrix_unchanged = λ why q. refl; loaded = λ found q. refuses_only is q }

pub returns : goal.returns
unfolding outcome filled
returns c =
    let r = c.read_lists.ensures in
    let listed = file-listed _ _ r.result_value _ c.in_ok-found.was _ _ _ _ _ _ r.costs_after r.lengths_after r.numbers_after in
    let raised = parts-raised _ _ _ _ _ listed _ c.fill_costs.ensures in
    record {
      result_value = c.in_ok-found.ensures.result_value;
      costs_after = rw c.requires raised;
      matrix_unchanged = λ why q. refuses_only q refl;
      loaded = λ found q. loaded_as _ _ _ _ _ listed _ _ c.fill_matrix.ensures.matrix_len raised c.fill_matrix.ensures.holds found q;
    }
