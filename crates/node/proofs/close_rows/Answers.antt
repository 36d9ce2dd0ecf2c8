use Rattle.node.proofs.Passes.{carrying_next, carrying_end}
use Rattle.node.proofs.close_rows.Goals as goal

pub loop-r-preserved : goal.loop-r-preserved
loop-r-preserved c = carrying_next _ _ _ _ _ c.loop-r.invariant c.loop-r-test.true _ (rw c.from.ensures)

pub returns : goal.returns
returns c = carrying_end _ _ _ _ _ c.loop-r.invariant c.loop-r-test.false
