-- The open rows that are left raise the bound as all of them do.
use Rattle.node.specs.Stored.{matrix_in}
use Rattle.node.proofs.Parts.{row_columns_lem}
use Rattle.node.proofs.Passes.{passing_closed, passing_end}
use Rattle.goals.proofs.Raising.{raising_start, raising_open}
use Rattle.goals.proofs.raise.Goals as goal
use Rattle.goals.proofs.raise.Goals.{then-row-i-eq1, else-row-i-eq1}

pub loop-i-init : goal.loop-i-init
loop-i-init c = raising_start _ _ _ c.requires c.row_count-rows.ensures

pub raise_by-best-requires : goal.raise_by-best-requires
raise_by-best-requires c = row_columns_lem (matrix_in _) c.loop-i.invariant.kept.small _ _ c.row_part-columns.ensures

pub loop-i-preserved : goal.loop-i-preserved
loop-i-preserved c = elim c.if-row-i-eq1.branch [
  | then-row-i-eq1 w ↦ rw w.best-is (raising_open _ _ _ _ _ c.loop-i.invariant c.loop-i-test.true w.if-row-i-eq1.true _ w.row_part-columns.ensures _ w.raise_by-best.ensures)
  | else-row-i-eq1 w ↦ rw w.best-is (passing_closed c.loop-i.invariant c.loop-i-test.true w.if-row-i-eq1.false)
]

pub returns : goal.returns
returns c = passing_end c.loop-i.invariant c.loop-i-test.false
