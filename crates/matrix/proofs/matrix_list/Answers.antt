-- The list that is put together keeps the matrix.
use native.Mathlib.Omega.{arith}
use Rattle.matrix.proofs.Listing.{list_room, row_room, list_holds}
use Rattle.matrix.proofs.matrix_list.Goals as goal

pub overflow_cast-matrix-2 : goal.overflow_cast-matrix-2
overflow_cast-matrix-2 c = omega (arith, (list_room _ _ _ c.requires).few)

pub put_bodies-requires : goal.put_bodies-requires
put_bodies-requires c = list_room _ _ _ c.requires

pub put_rows-requires : goal.put_rows-requires
put_rows-requires c = row_room _ _ _ c.requires _ c.put_bodies.ensures.cover_after

pub returns : goal.returns
returns c =
    list_holds _ _ _ c.requires c.no_cells-matrix.result c.no_cells-matrix.ensures _ _ _
    c.put_bodies.ensures.cover_after c.put_bodies.ensures.matrix_after c.put_rows.ensures
