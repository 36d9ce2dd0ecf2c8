-- The file is examined; then every part of the desk is written.
use mathlib.Core.Path.{sym}
use native.Mathlib.Omega.{arith}
use Rattle.refusals.specs.Refusals.{fault_of, outcome}
use Rattle.refusals.proofs.Laws.{refuses, handed_on}
use Rattle.dutyfile.proofs.Facts.{file-fine}
use Rattle.desk.specs.Desk.{empty_desk}
use Rattle.desk.proofs.Ways.{empty_refused, empty_made, shape_passes, shape_rows}
use Rattle.desk.proofs.empty.Goals as goal

pub overflow_cast-off : goal.overflow_cast-off
unfolding outcome
overflow_cast-off c =
    let f = shape_passes _ _ c.in_ok-rows.ensures in
    record { fits = omega (arith, shape_rows _ _ c.in_ok-rows.ensures, (file-fine _ f).walked.header.counts.rows.most) }

pub returns-in_err-rows : goal.returns-in_err-rows
unfolding outcome fault_of
returns-in_err-rows c =
    let e = refuses _ _ _ (sym c.in_err-rows.ensures) in
    record { result_value = rw (handed_on _ _ c.from_residual.ensures.1) (sym e); total_after = empty_refused c.args.file.now _ _ e }

pub returns : goal.returns
unfolding outcome fault_of empty_desk
returns c =
    let f = shape_passes _ _ c.in_ok-rows.ensures in
    record { result_value = sym f; total_after = rw (shape_rows _ _ c.in_ok-rows.ensures) (empty_made _ _ f) }
