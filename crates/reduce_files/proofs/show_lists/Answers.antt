-- A file that is written is within the buffer.
use mathlib.Core.Path.{sym}
use native.Mathlib.Omega.{arith}
use borrow.Author.Tests.{leb-true}
use Rattle.refusals.specs.Refusals.{outcome}
use Rattle.refusals.proofs.Laws.{both, asked, accepts}
use Rattle.dutyfile.specs.Faults.{writing}
use Rattle.reduce_files.proofs.show_lists.Goals as goal

pub slice_bounds-show_file-end : goal.slice_bounds-show_file-end
unfolding outcome writing
slice_bounds-show_file-end c =
    let t = accepts _ _ _ (sym c.in-Ok.ensures.result_value) in
    let fits = leb-true _ _ (asked _ 10 (both _ _ t.0).1) in omega (arith, t.1)
