-- A file that is written is within the buffer.
use native.Mathlib.Omega.{arith}
use Rattle.refusals.specs.Refusals.{outcome}
use Rattle.roundtrip.proofs.Laws.{written-fits}
use Rattle.file_cases.proofs.write_back.Goals as goal

pub slice_bounds-equal-end : goal.slice_bounds-equal-end
unfolding outcome
slice_bounds-equal-end c = let fits = written-fits _ _ 0 0 0 _ c.in-Ok.ensures.result_value in omega arith
