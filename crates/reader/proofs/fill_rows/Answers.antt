-- The row numbers are all that follows the contents.
use native.Mathlib.Nat.{zero-add}
use native.Mathlib.Omega.{arith}
use Rattle.dutyfile.proofs.Facts.{header-fine}
use Rattle.reader.proofs.Filled.{rest_part, rest-filled}
use Rattle.reader.proofs.fill_rows.Goals as goal

pub column_count-requires : goal.column_count-requires
column_count-requires c = (header-fine _ c.requires.file_value).long

pub overflow_mul-start : goal.overflow_mul-start
overflow_mul-start c = omega (arith, c.column_count.ensures, (header-fine _ c.requires.file_value).counts.columns.most)

pub overflow_add-start : goal.overflow_add-start
overflow_add-start c = omega (arith, c.column_count.ensures, (header-fine _ c.requires.file_value).counts.columns.most)

pub slice_bounds-put-count : goal.slice_bounds-put-count
slice_bounds-put-count c = omega (arith, c.column_count.ensures, (header-fine _ c.requires.file_value).contents)

pub slice_bounds-put-start : goal.slice_bounds-put-start
slice_bounds-put-start c = omega (arith, c.column_count.ensures, (header-fine _ c.requires.file_value).contents)

pub put-requires : goal.put-requires
put-requires c = rw (rest_part c.args.file.now c.args.rows.now _ c.column_count.ensures, zero-add) c.requires.file_in_bounds

pub returns : goal.returns
returns c = rest-filled c.args.file.now _ _ c.column_count.ensures _ c.requires.file_in_bounds c.put.ensures
