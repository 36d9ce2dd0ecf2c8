use Rattle.candidates.proofs.Tally.{tallying_start, tallying_few, tallying_free, tallying_other}
use Rattle.candidates.proofs.statistics.Goals as goal
use Rattle.candidates.proofs.statistics.Goals.{then-column-j-eq1, else-column-j-eq1}

pub loop-j-init : goal.loop-j-init
loop-j-init c = tallying_start _ _ _ _ _

pub join-found-requires : goal.join-found-requires
join-found-requires c = tallying_few _ _ _ _ _ _ _ c.loop-j.invariant c.loop-j-test.true c.requires.few

pub loop-j-preserved : goal.loop-j-preserved
loop-j-preserved c =
    let e = c.from-j.ensures in
    elim c.if-column-j-eq1.branch [
      | then-column-j-eq1 w ↦
          rw w.found-is
          (tallying_free _ _ _ _ _ _ _ c.loop-j.invariant c.loop-j-test.true (rw (← e) w.if-column-j-eq1.true) w.column_size.result
          (rw (← e) w.column_size.ensures) _ (rw (← e) w.join-found.ensures))
      | else-column-j-eq1 w ↦ rw w.found-is (tallying_other _ _ _ _ _ _ _ c.loop-j.invariant c.loop-j-test.true (rw (← e) w.if-column-j-eq1.false))
    ]
