-- The columns of the part of the matrix that is the row: the one at cost 0, or the one that is picked.
use mathlib.Core.Path.{◌∙◌}
use Rattle.node.specs.Stored.{matrix_in}
use Rattle.node.specs.View.{view}
use Rattle.node.proofs.Parts.{row_columns_lem}
use Rattle.columns.proofs.Column.{only-is, row_inside, row-column-is}
use Rattle.columns.proofs.branch_column.Goals as goal

pub only_zero-requires : goal.only_zero-requires
only_zero-requires c = row_columns_lem (matrix_in _) c.requires.kept.small _ _ c.row_part-row.ensures

pub returns-in-Some : goal.returns-in-Some
returns-in-Some c =
    only-is (matrix_in _) (view _ _ _) _ _ c.in-Some.ensures
    ∙ row-column-is (matrix_in _) _ _ c.row_part-row.ensures _ _

pub column_in-requires : goal.column_in-requires
column_in-requires c = (c.requires.kept, row_inside (matrix_in _) _ _ c.row_part-row.ensures)

pub returns-in-None : goal.returns-in-None
returns-in-None c = c.column_in.ensures ∙ row-column-is (matrix_in _) _ _ c.row_part-row.ensures _ _
