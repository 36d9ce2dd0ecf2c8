-- The better of the best row and the one whose columns are the part of the matrix.
use mathlib.Core.Path.{ap, ◌∙◌}
use Rattle.node.specs.Passes.{better}
use Rattle.node.specs.Stored.{matrix_in}
use Rattle.node.proofs.Parts.{row-few}
use Rattle.choice.specs.Row.{precedes}
use Rattle.choice.proofs.Row.{row_is}
use Rattle.choice.proofs.better_row.Goals as goal

pub better_of-requires : goal.better_of-requires
better_of-requires c = row-few (matrix_in _) c.requires.kept.small _ _ c.row_part-row.ensures

pub returns : goal.returns
returns c = c.better_of.ensures ∙ ap (better precedes _) (row_is (matrix_in _) _ _ _ _ c.row_part-row.ensures)
