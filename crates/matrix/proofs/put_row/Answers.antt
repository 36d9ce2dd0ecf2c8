use Rattle.matrix.proofs.Collected.{collecting_start, collecting_room, collecting_found, collecting_other, collecting_end}
use Rattle.matrix.proofs.put_row.Goals as goal
use Rattle.matrix.proofs.put_row.Goals.{then-cover-row-eq1, else-cover-row-eq1}

pub loop-j-init : goal.loop-j-init
loop-j-init c = collecting_start _ _ _ _ _ c.requires

pub bounds-matrix-end : goal.bounds-matrix-end
bounds-matrix-end c = collecting_room _ _ _ _ _ _ _ _ c.loop-j.invariant c.loop-j-test.true c.if-cover-row-eq1.true

pub loop-j-preserved : goal.loop-j-preserved
loop-j-preserved c = elim c.if-cover-row-eq1.branch [
  | then-cover-row-eq1 w ↦ rw (w.matrix-is, w.end-is) (collecting_found _ _ _ _ _ _ _ _ c.loop-j.invariant c.loop-j-test.true w.if-cover-row-eq1.true)
  | else-cover-row-eq1 w ↦ rw (w.matrix-is, w.end-is) (collecting_other _ _ _ _ _ _ _ _ c.loop-j.invariant c.loop-j-test.true w.if-cover-row-eq1.false)
]

pub returns : goal.returns
returns c =
    let e = collecting_end _ _ _ _ _ _ _ _ c.loop-j.invariant c.loop-j-test.false in
    record { value = e.0; matrix_after = e.1 }
