-- Lists are written; where that is accepted, the file is read from the front of the buffer.
use mathlib.Core.Path.{refl, ◌∙◌}
use native.Mathlib.Omega.{arith}
use Rattle.refusals.specs.Refusals.{outcome, filled}
use Rattle.refusals.proofs.Laws.{handed_on}
use Rattle.roundtrip.proofs.Laws.{write_refused, written-fits, lists_read, outcome_read}
use Rattle.roundtrip.proofs.write_read.Goals as goal

pub slice_bounds-read-end : goal.slice_bounds-read-end
unfolding outcome
slice_bounds-read-end c = let fits = written-fits _ _ 0 0 0 _ c.in_ok-size.ensures.result_value in omega arith

pub returns-in_err-size : goal.returns-in_err-size
unfolding outcome filled
returns-in_err-size c =
    rw (handed_on _ _ c.from_residual.ensures.1)
    (record {
      result_value = write_refused _ _ _ _ _ _ c.in_err-size.ensures.result_value;
      costs_read_after = refl;
      lengths_read_after = refl;
      numbers_read_after = refl;
      file_after = rw c.write_by.ensures.result_value at c.write_by.ensures.out_after;
    })

pub returns : goal.returns
unfolding outcome
returns c =
    let written = c.in_ok-size.ensures.result_value in
    let file = rw c.write_by.ensures.result_value at c.write_by.ensures.out_after in
    let same = lists_read _ _ 0 0 0 _ written _ _ file in
    record {
      result_value = c.read.ensures.result_value ∙ outcome_read _ _ _ _ _ _ written _ _ file;
      costs_read_after = rw same at c.read.ensures.costs_after;
      lengths_read_after = rw same at c.read.ensures.lengths_after;
      numbers_read_after = rw same at c.read.ensures.rows_after;
      file_after = file;
    }
