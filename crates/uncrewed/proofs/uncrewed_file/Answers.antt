-- A file is read, then the call's tests are made; only where all pass are the trials run.
use mathlib.Core.Path.{ap, ◌∙◌}
use Rattle.std.specs.Prelude.{Ok}
use Rattle.refusals.specs.Refusals.{accepted}
use Rattle.refusals.proofs.Laws.{failed, passed, handed_on, keeps}
use Rattle.lists.proofs.Read.{file-refused, file_fronts}
use Rattle.uncrewed.specs.Answer.{uncrewed_outcome}
use Rattle.uncrewed.proofs.Called.{refused-tells, refused-file, sized, refused-call, ready, has_room, given-answer, given_list, given-tells}
use Rattle.uncrewed.proofs.uncrewed_file.Goals as goal

pub check_uncrewed-requires : goal.check_uncrewed-requires
check_uncrewed-requires c =
    let r = c.read_lists.ensures in
    let f = file_fronts _ _ r.result_value _ c.in_ok-found.was _ _ _ _ _ _ r.costs_after r.lengths_after r.numbers_after in
    sized _ _ _ _ _ f

pub run_trials-requires : goal.run_trials-requires
run_trials-requires c =
    let r = c.read_lists.ensures in
    let f = file_fronts _ _ r.result_value _ c.in_ok-found.was _ _ _ _ _ _ r.costs_after r.lengths_after r.numbers_after in
    let g = passed c.check_uncrewed.ensures c.in_ok-check_uncrewed.was in
    (ready _ _ _ _ _ _ _ f g, has_room _ _ _ _ _ _ _ f g)

pub returns-in_err-found : goal.returns-in_err-found
unfolding uncrewed_outcome
returns-in_err-found c =
    let o = ap uncrewed_outcome (handed_on _ _ c.from_residual.ensures.1) in
    record {
      result_value = o ∙ refused-file _ _ _ _ (file-refused _ _ c.read_lists.ensures.result_value _ c.in_err-found.was);
      shown_after = keeps _ _ _ o;
      told = rw o (refused-tells _ _ _ _);
    }

pub returns-in_err-check_uncrewed : goal.returns-in_err-check_uncrewed
unfolding uncrewed_outcome
returns-in_err-check_uncrewed c =
    let r = c.read_lists.ensures in
    let f = file_fronts _ _ r.result_value _ c.in_ok-found.was _ _ _ _ _ _ r.costs_after r.lengths_after r.numbers_after in
    let o = ap uncrewed_outcome (handed_on _ _ c.from_residual-in_err-check_uncrewed.ensures.1) in
    record {
      result_value = o ∙ refused-call _ _ _ _ _ _ _ f _ (failed c.check_uncrewed.ensures _ c.in_err-check_uncrewed.was);
      shown_after = keeps _ _ _ o;
      told = rw o (refused-tells _ _ _ _);
    }

pub returns : goal.returns
unfolding uncrewed_outcome
returns c =
    let r = c.read_lists.ensures in
    let f = file_fronts _ _ r.result_value _ c.in_ok-found.was _ _ _ _ _ _ r.costs_after r.lengths_after r.numbers_after in
    let g = passed c.check_uncrewed.ensures c.in_ok-check_uncrewed.was in
    let told = ap accepted c.run_trials.ensures.result_value in
    record {
      result_value = given-answer _ _ _ _ _ _ _ f g (Ok c.run_trials.result) told;
      shown_after = given_list _ _ _ _ _ _ _ f g (Ok c.run_trials.result) told _ _ c.run_trials.ensures.shown_after;
      told = given-tells _ _ _ _ _ _ _ f g (Ok c.run_trials.result) told _ _ c.run_trials.ensures.shown_after;
    }
