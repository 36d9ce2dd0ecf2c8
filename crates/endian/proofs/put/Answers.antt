use mathlib.Core.Path.{refl, sym, ◌∙◌}
use native.Mathlib.Nat.{add-zero}
use lib.ListN.{length-set}
use Rattle.endian.proofs.Laws.{sets_end, sets-step}
use Rattle.endian.proofs.put.Goals as goal

pub loop-i-init : goal.loop-i-init
loop-i-init c = (refl, rw add-zero)

pub loop-i-preserved : goal.loop-i-preserved
loop-i-preserved c =
    let i = c.loop-i.invariant in
    (simp length-set i.0, sym (sets-step _ _ _ _ c.loop-i-test.true) ∙ i.1)

pub returns : goal.returns
returns c = sym (sets_end _ _ _ _ c.loop-i-test.false) ∙ c.loop-i.invariant.1
