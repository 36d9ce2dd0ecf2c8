use Rattle.matrix.proofs.Putting.{putting_start, putting_part, putting_next, putting_end}
use Rattle.matrix.proofs.put_bodies.Goals as goal

pub loop-j-init : goal.loop-j-init
loop-j-init c = putting_start _ _ _ _ c.requires

pub slice_bounds-body-end : goal.slice_bounds-body-end
slice_bounds-body-end c = (putting_part _ _ _ _ _ _ _ _ c.loop-j.invariant c.loop-j-test.true).inside

pub put_body-requires : goal.put_body-requires
put_body-requires c = (putting_part _ _ _ _ _ _ _ _ c.loop-j.invariant c.loop-j-test.true).room

pub mark_column-requires : goal.mark_column-requires
mark_column-requires c =
    let q = putting_part _ _ _ _ _ _ _ _ c.loop-j.invariant c.loop-j-test.true in
    (q.column, q.rows)

pub loop-j-preserved : goal.loop-j-preserved
loop-j-preserved c = putting_next _ _ _ _ _ _ _ _ c.loop-j.invariant c.loop-j-test.true _ _ c.put_body.ensures c.mark_column.ensures

pub returns : goal.returns
returns c =
    let e = putting_end _ _ _ _ _ _ _ _ c.loop-j.invariant c.loop-j-test.false in
    record { matrix_after = e.0; cover_after = e.1 }
