-- What a file holds is within the lists that were lent for it.
use native.Mathlib.Omega.{arith}
use Rattle.refusals.specs.Refusals.{outcome}
use Rattle.roundtrip.proofs.Laws.{found-fits}
use Rattle.file_cases.proofs.show.Goals as goal

pub overflow_cast-m : goal.overflow_cast-m
unfolding outcome
overflow_cast-m c = let fits = found-fits _ _ _ _ _ c.in-Ok.ensures.result_value in omega (arith, fits.rows)

pub slice_bounds-write_back-end : goal.slice_bounds-write_back-end
unfolding outcome
slice_bounds-write_back-end c = let fits = found-fits _ _ _ _ _ c.in-Ok.ensures.result_value in omega (arith, fits.costs)

pub slice_bounds-write_back-end-in-Ok-2 : goal.slice_bounds-write_back-end-in-Ok-2
unfolding outcome
slice_bounds-write_back-end-in-Ok-2 c = let fits = found-fits _ _ _ _ _ c.in-Ok.ensures.result_value in omega (arith, fits.numbers)
