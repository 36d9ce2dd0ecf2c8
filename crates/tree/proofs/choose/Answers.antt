-- The row and the column found are those that the rules pick.
use native.Mathlib.Omega.{arith}
use Rattle.tree.proofs.Choosing.{choice_row, choice_room, choice_made, choice_low}
use Rattle.tree.proofs.choose.Goals as goal

pub branch_column-found-requires : goal.branch_column-found-requires
branch_column-found-requires c = choice_row _ _ c.requires _ c.branch_row-best.ensures

pub overflow_cast-result : goal.overflow_cast-result
overflow_cast-result c = omega (arith, choice_low _ _ c.requires _ c.branch_row-best.ensures _ c.branch_column-found.ensures)

pub without_bound-requires : goal.without_bound-requires
without_bound-requires c = choice_room _ _ c.requires _ c.branch_row-best.ensures

pub returns : goal.returns
returns c = choice_made _ _ c.requires _ c.branch_row-best.ensures _ c.branch_column-found.ensures _ c.without_bound.ensures
