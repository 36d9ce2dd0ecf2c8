-- By what the step does.
use Rattle.signed.specs.Signed.{sum32, difference32}
use Rattle.signed.proofs.Signs.{read_back_lem}
use Rattle.desk.specs.Desk.{new_total}
use Rattle.desk.proofs.new_total.Goals as goal

pub returns-in-Adding : goal.returns-in-Adding
unfolding new_total
returns-in-Adding c = rw c.in-Adding.is (read_back_lem sum32 _ _ _ c.ranges.total c.ranges.cost c.wrapping_add.type_inv c.wrapping_add.ensures)

pub returns-in-Removing : goal.returns-in-Removing
unfolding new_total
returns-in-Removing c = rw c.in-Removing.is (read_back_lem difference32 _ _ _ c.ranges.total c.ranges.cost c.wrapping_sub.type_inv c.wrapping_sub.ensures)
