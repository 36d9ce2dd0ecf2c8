use mathlib.Core.Path.{refl}
use Rattle.lowering.proofs.Lowered.{lowering_free, lowering_other, lowering_end}
use Rattle.lowering.proofs.lower_costs.Goals as goal
use Rattle.lowering.proofs.lower_costs.Goals.{then-column-j-eq1, else-column-j-eq1}

pub loop-k-init : goal.loop-k-init
loop-k-init c = record { left = record { left = refl }; same = λ n h l. refl }

pub loop-k-preserved : goal.loop-k-preserved
loop-k-preserved c =
    let i = c.loop-k.invariant in
    let e = c.from-j.ensures in
    elim c.if-column-j-eq1.branch [
      | then-column-j-eq1 w ↦ rw (w.cost-is, e) (lowering_free _ _ _ _ _ _ i c.loop-k-test.true c.requires.1 (rw (← e) w.if-column-j-eq1.true))
      | else-column-j-eq1 w ↦ rw w.cost-is (lowering_other _ _ _ _ _ _ i c.loop-k-test.true (rw (← e) w.if-column-j-eq1.false))
    ]

pub returns : goal.returns
returns c = lowering_end _ _ _ _ _ _ c.loop-k.invariant c.loop-k-test.false
