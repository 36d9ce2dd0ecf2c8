use mathlib.Core.Path.{◌∙◌, sym}
use Rattle.columns.proofs.Only.{lone_start, lone_two, lone_found, lone_other, lone_end}
use Rattle.columns.proofs.only_zero.Goals as goal
use Rattle.columns.proofs.only_zero.Goals.{then-is_zero+else-is_some, else-is_zero}

pub loop-j-init : goal.loop-j-init
loop-j-init c = lone_start _ _

pub returns-then-is_some : goal.returns-then-is_some
returns-then-is_some c = lone_two _ _ _ _ c.loop-j.invariant c.loop-j-test.true (rw (← c.from-j.ensures) (sym c.is_zero.ensures ∙ c.if-is_zero.true)) (sym c.is_some.ensures ∙ c.if-is_some.true)

pub loop-j-preserved : goal.loop-j-preserved
loop-j-preserved c =
    let i = c.loop-j.invariant in
    let t = c.loop-j-test.true in
    let e = c.from-j.ensures in
    let z = c.is_zero.ensures in
    elim c.if-is_zero.branch [
      | then-is_zero+else-is_some w ↦ rw (w.found-is, e) (lone_found _ _ _ _ i t (rw (← e) (sym z ∙ w.if-is_zero.true)) (sym w.is_some.ensures ∙ w.if-is_some.false))
      | else-is_zero w ↦ rw w.found-is (lone_other _ _ _ _ i t (rw (← e) (sym z ∙ w.if-is_zero.false)))
    ]

pub returns : goal.returns
returns c = lone_end _ _ _ _ c.loop-j.invariant c.loop-j-test.false
