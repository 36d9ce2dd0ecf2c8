use Rattle.node.proofs.Passes.{carrying_next, carrying_end}
use Rattle.node.proofs.Taking.{dropped-free, dropped_other}
use Rattle.node.proofs.drop_columns.Goals as goal
use Rattle.node.proofs.drop_columns.Goals.{then-column-j-eq1, else-column-j-eq1}

pub loop-j-preserved : goal.loop-j-preserved
loop-j-preserved c = carrying_next _ _ _ _ _ c.loop-j.invariant c.loop-j-test.true _ (rw (← c.from-j.ensures) (elim c.if-column-j-eq1.branch [
  | then-column-j-eq1 w ↦ rw w.column-is (dropped-free _ _ w.if-column-j-eq1.true)
  | else-column-j-eq1 w ↦ rw w.column-is (dropped_other _ _ w.if-column-j-eq1.false)
]))

pub returns : goal.returns
returns c = carrying_end _ _ _ _ _ c.loop-j.invariant c.loop-j-test.false
