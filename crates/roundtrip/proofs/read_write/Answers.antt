-- A file is read; where that is accepted, the fronts of the lists are written.
use mathlib.Core.Path.{refl, ◌∙◌}
use native.Mathlib.Omega.{arith}
use Rattle.refusals.specs.Refusals.{outcome, filled}
use Rattle.refusals.proofs.Laws.{handed_on}
use Rattle.dutyfile.proofs.Round.{Bytes}
use Rattle.roundtrip.proofs.Laws.{read_refused, found-fits, fronts_are, file-written, outcome_written}
use Rattle.roundtrip.proofs.read_write.Goals as goal

pub overflow_cast-found : goal.overflow_cast-found
unfolding outcome
overflow_cast-found c = let fits = found-fits _ _ _ _ _ c.in_ok-found.ensures.result_value in omega (arith, fits.rows)

pub slice_bounds-write_by-end : goal.slice_bounds-write_by-end
unfolding outcome
slice_bounds-write_by-end c = let fits = found-fits _ _ _ _ _ c.in_ok-found.ensures.result_value in omega (arith, fits.costs)

pub slice_bounds-write_by-end-2 : goal.slice_bounds-write_by-end-2
unfolding outcome
slice_bounds-write_by-end-2 c = let fits = found-fits _ _ _ _ _ c.in_ok-found.ensures.result_value in omega (arith, fits.lengths)

pub slice_bounds-write_by-end-3 : goal.slice_bounds-write_by-end-3
unfolding outcome
slice_bounds-write_by-end-3 c = let fits = found-fits _ _ _ _ _ c.in_ok-found.ensures.result_value in omega (arith, fits.numbers)

pub returns-in_err-found : goal.returns-in_err-found
unfolding outcome filled
returns-in_err-found c =
    let t = c.read.ensures.result_value in
    rw (handed_on _ _ c.from_residual.ensures.1)
    (record {
      result_value = read_refused _ _ _ _ _ _ c.in_err-found.ensures.result_value;
      out_after = refl;
      costs_after = rw t at c.read.ensures.costs_after;
      lengths_after = rw t at c.read.ensures.lengths_after;
      numbers_after = rw t at c.read.ensures.rows_after;
    })

pub returns : goal.returns
unfolding outcome
returns c =
    let found = c.in_ok-found.ensures.result_value in
    let bytes : Bytes c.args.file.now = λ i. omega (arith, c.type_inv.file i) in
    let t = c.read.ensures.result_value in
    let costs = rw t at c.read.ensures.costs_after in
    let lengths = rw t at c.read.ensures.lengths_after in
    let numbers = rw t at c.read.ensures.rows_after in
    let is = fronts_are _ _ _ _ _ found _ _ _ _ _ _ costs lengths numbers in
    record {
      result_value = c.write_by.ensures.result_value ∙ outcome_written _ _ _ _ _ found bytes _ _ is;
      out_after = rw (file-written _ _ _ _ _ found bytes 0 _ is) at c.write_by.ensures.out_after;
      costs_after = costs;
      lengths_after = lengths;
      numbers_after = numbers;
    }
