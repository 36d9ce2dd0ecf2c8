-- The part of the file that the entry names is the body of its column, and the number that the entry's 32 bits stand for is its cost.
use mathlib.Core.Path.{◌∙◌}
use native.Mathlib.Omega.{arith}
use Rattle.signed.proofs.Signs.{given}
use Rattle.desk.proofs.Ways.{passed, found-column, found_ready, found-moved}
use Rattle.desk.proofs.move_entry.Goals as goal

pub overflow_sub-number : goal.overflow_sub-number
overflow_sub-number c = (passed _ _ c.requires.passes).1

pub slice_bounds-move_column-end : goal.slice_bounds-move_column-end
slice_bounds-move_column-end c = omega (arith, c.from-start.ensures, c.from.ensures, (found-column _ _ _ c.requires).inside)

pub move_column-requires : goal.move_column-requires
move_column-requires c = rw (c.from-start.ensures, c.from.ensures) (found_ready _ _ _ c.requires)

pub returns : goal.returns
returns c =
    (rw (given _ c.from_bits-cost.type_inv, c.from_bits-cost.ensures, c.from-start.ensures, c.from.ensures) at c.move_column.ensures) ∙ found-moved _ _ _ c.requires _ _
