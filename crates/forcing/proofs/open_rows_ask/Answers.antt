-- The open rows that are left give what all of them ask.
use Rattle.node.proofs.Parts.{row_low}
use Rattle.node.proofs.Passes.{passing_row, passing_closed, passing_end}
use Rattle.forcing.proofs.Asking.{asking_start, asking-dead, asking_open}
use Rattle.forcing.proofs.open_rows_ask.Goals as goal
use Rattle.forcing.proofs.open_rows_ask.Goals.{then-row-i-eq1+in_default, else-row-i-eq1}

pub loop-i-init : goal.loop-i-init
loop-i-init c = asking_start _ _ _ c.requires c.row_count-rows.ensures

pub bounds-row-i : goal.bounds-row-i
bounds-row-i c = row_low _ _ (passing_row c.loop-i.invariant c.loop-i-test.true)

pub row_asks-next-requires : goal.row_asks-next-requires
row_asks-next-requires c = passing_row c.loop-i.invariant c.loop-i-test.true

pub returns-in-Dead : goal.returns-in-Dead
returns-in-Dead c = asking-dead _ _ _ _ _ c.loop-i.invariant c.loop-i-test.true c.if-row-i-eq1.true _ c.row_asks-next.ensures c.in-Dead.is

pub loop-i-preserved : goal.loop-i-preserved
loop-i-preserved c = elim c.if-row-i-eq1.branch [
  | then-row-i-eq1+in_default w ↦ rw w.found-is (asking_open _ _ _ _ _ c.loop-i.invariant c.loop-i-test.true w.if-row-i-eq1.true _ w.row_asks-next.ensures _ w.sooner_of-found.ensures)
  | else-row-i-eq1 w ↦ rw w.found-is (passing_closed c.loop-i.invariant c.loop-i-test.true w.if-row-i-eq1.false)
]

pub returns : goal.returns
returns c = passing_end c.loop-i.invariant c.loop-i-test.false
