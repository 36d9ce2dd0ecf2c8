-- The columns that share a row of the body, and the body's length.
use native.Mathlib.Omega.{arith}
use Rattle.node.specs.Stored.{matrix_in}
use Rattle.columns.proofs.Column.{column-rows, column-size, column-is}
use Rattle.columns.proofs.column_statistics.Goals as goal

pub count_sharing-requires : goal.count_sharing-requires
count_sharing-requires c =
    let k = c.requires in
    record { kept = k.kept; numbered = column-rows (matrix_in _) k.kept.small _ k.column _ c.column_part-body.ensures }

pub overflow_cast-result : goal.overflow_cast-result
overflow_cast-result c =
    let k = c.requires in
    omega (arith, column-size (matrix_in _) k.kept.small _ k.column _ c.column_part-body.ensures)

pub returns : goal.returns
returns c =
    let k = c.requires in
    column-is (matrix_in _) k.kept.small _ k.column _ c.column_part-body.ensures _ _ _ c.count_sharing.ensures
