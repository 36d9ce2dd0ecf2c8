-- The open rows that are left give the row that is picked from all.
use Rattle.node.proofs.Passes.{passing_closed, passing_end}
use Rattle.choice.proofs.Rows.{choosing_start, choosing_open}
use Rattle.choice.proofs.branch_row.Goals as goal
use Rattle.choice.proofs.branch_row.Goals.{then-row-i-eq1, else-row-i-eq1}

pub loop-i-init : goal.loop-i-init
loop-i-init c = choosing_start _ _ _ c.requires c.row_count-rows.ensures

pub loop-i-preserved : goal.loop-i-preserved
loop-i-preserved c = elim c.if-row-i-eq1.branch [
  | then-row-i-eq1 w ↦ rw w.best-is (choosing_open _ _ _ _ _ _ _ c.loop-i.invariant c.loop-i-test.true w.if-row-i-eq1.true _ w.better_row-best.ensures)
  | else-row-i-eq1 w ↦ rw w.best-is (passing_closed c.loop-i.invariant c.loop-i-test.true w.if-row-i-eq1.false)
]

pub returns : goal.returns
returns c = passing_end c.loop-i.invariant c.loop-i-test.false
