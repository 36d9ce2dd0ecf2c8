-- By what the step does.
use Rattle.desk.specs.Desk.{changes}
use Rattle.desk.proofs.is_change.Goals as goal

pub returns-in-Adding : goal.returns-in-Adding
unfolding changes
returns-in-Adding c = rw c.in-Adding.is

pub returns-in-Removing : goal.returns-in-Removing
unfolding changes
returns-in-Removing c = rw c.in-Removing.is
