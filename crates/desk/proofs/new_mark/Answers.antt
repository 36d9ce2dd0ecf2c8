-- By what the step does.
use Rattle.desk.specs.Desk.{new_mark}
use Rattle.desk.proofs.new_mark.Goals as goal

pub returns-in-Adding : goal.returns-in-Adding
unfolding new_mark
returns-in-Adding c = rw c.in-Adding.is

pub returns-in-Removing : goal.returns-in-Removing
unfolding new_mark
returns-in-Removing c = rw c.in-Removing.is
