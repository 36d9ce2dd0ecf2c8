-- The file's end is tested, then its bodies: each way out is one of the definition's.
use mathlib.Core.Path.{◌≡◌}
use native.Mathlib.Omega.{arith}
use Rattle.refusals.proofs.Laws.{failed, passed, handed_on}
use Rattle.refusals.specs.Refusals.{fine, outcome}
use Rattle.dutyfile.specs.File.{shape}
use Rattle.dutyfile.specs.Faults.{end_fault}
use Rattle.dutyfile.proofs.Facts.{header-fine, contents-small}
use Rattle.examine.proofs.Examined.{end_fails, end-passes, rows_fail, all_passes}
use Rattle.examine.proofs.examine_bodies.Goals as goal

pub column_count-columns-requires : goal.column_count-columns-requires
column_count-columns-requires c = (header-fine _ c.requires.file_value).long

pub overflow_mul-columns : goal.overflow_mul-columns
overflow_mul-columns c = omega (arith, c.column_count-columns.ensures, (header-fine _ c.requires.file_value).counts.columns.most)

pub overflow_add-columns : goal.overflow_add-columns
overflow_add-columns c = omega (arith, c.column_count-columns.ensures, (header-fine _ c.requires.file_value).counts.columns.most)

pub overflow_add-columns-2 : goal.overflow_add-columns-2
overflow_add-columns-2 c = omega (arith, c.column_count-columns.ensures, (header-fine _ c.requires.file_value).counts.columns.most, c.requires.total_value, contents-small _ c.requires.file_value_2)

pub returns-then-file-columns : goal.returns-then-file-columns
unfolding outcome
returns-then-file-columns c = end_fails _ c.requires.file_value c.requires.file_value_2 (λ e. c.if-file-columns.true (omega (arith, e, c.requires.total_value, c.column_count-columns.ensures)))

pub check_bodies-requires : goal.check_bodies-requires
check_bodies-requires c = let end : end_fault c.args.file.now ≡ fine = end-passes _ c.requires.file_value c.requires.file_value_2 (omega (arith, c.if-file-columns.false, c.requires.total_value, c.column_count-columns.ensures)) in record { file_value = c.requires.file_value; file_value_2 = c.requires.file_value_2; file_value_3 = end }

pub returns-in_err-check_bodies : goal.returns-in_err-check_bodies
unfolding outcome
returns-in_err-check_bodies c =
    let end : end_fault c.args.file.now ≡ fine = end-passes _ c.requires.file_value c.requires.file_value_2 (omega (arith, c.if-file-columns.false, c.requires.total_value, c.column_count-columns.ensures)) in
    rw (handed_on _ _ c.from_residual.ensures.1)
    (rows_fail _ c.requires.file_value c.requires.file_value_2 end _ (failed c.check_bodies.ensures _ c.in_err-check_bodies.was))

pub returns : goal.returns
unfolding outcome shape
returns c =
    let end : end_fault c.args.file.now ≡ fine = end-passes _ c.requires.file_value c.requires.file_value_2 (omega (arith, c.if-file-columns.false, c.requires.total_value, c.column_count-columns.ensures)) in
    rw (c.edition_in.ensures, c.row_count.ensures, c.column_count-columns.ensures, c.requires.total_value)
    (all_passes _ c.requires.file_value c.requires.file_value_2 end (passed c.check_bodies.ensures c.in_ok-check_bodies.was))
