use mathlib.Core.Path.{◌∙◌, sym}
use Rattle.sharing.proofs.Seen.{marking_start, marking_new, marking_old, marking_other}
use Rattle.sharing.proofs.mark_row.Goals as goal
use Rattle.sharing.proofs.mark_row.Goals.{then-is_zero+then-seen-j-eq0, else-is_zero, else-is_zero-via-then-is_zero+else-seen-j-eq0, else-is_zero-via-else-is_zero}

pub loop-j-init : goal.loop-j-init
loop-j-init c = marking_start _ _ _ c.requires.1 c.requires.2

pub loop-j-preserved : goal.loop-j-preserved
loop-j-preserved c =
    let i = c.loop-j.invariant in
    let t = c.loop-j-test.true in
    let e = c.from-j.ensures in
    let z = c.is_zero.ensures in
    elim c.if-is_zero.branch [
      | then-is_zero+then-seen-j-eq0 w ↦
          rw (w.seen-is, w.count-is, e)
          (marking_new _ _ _ _ _ _ i t (rw (← e) (sym z ∙ w.if-is_zero.true)) (rw (← e) w.if-seen-j-eq0.true) (c.requires.0 _ t))
      | else-is_zero w ↦ rw (w.seen-is, w.count-is) (elim w.else-is_zero.branch [
        | else-is_zero-via-then-is_zero+else-seen-j-eq0 v ↦ marking_old _ _ _ _ _ _ i t (rw (← e) v.if-seen-j-eq0.false)
        | else-is_zero-via-else-is_zero v ↦ marking_other _ _ _ _ _ _ i t (rw (← e) (sym z ∙ v.if-is_zero.false))
      ])
    ]
