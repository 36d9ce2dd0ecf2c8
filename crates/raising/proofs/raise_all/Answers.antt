use Rattle.raising.proofs.Table.{filling_start, filling_next, filling_end}
use Rattle.raising.proofs.raise_all.Goals as goal

pub loop-j-init : goal.loop-j-init
loop-j-init c = rw c.no_costs-table.ensures (filling_start _ _ _ c.requires)

pub loop-j-preserved : goal.loop-j-preserved
loop-j-preserved c = filling_next _ _ _ _ _ c.loop-j.invariant c.loop-j-test.true _ c.raised.ensures

pub returns : goal.returns
returns c = filling_end _ _ _ _ _ c.loop-j.invariant c.loop-j-test.false
