-- By what the step does.
use Rattle.desk.specs.Desk.{count_change}
use Rattle.desk.proofs.count_change.Goals as goal

pub returns-in-Adding : goal.returns-in-Adding
unfolding count_change
returns-in-Adding c = rw c.in-Adding.is

pub returns-in-Removing : goal.returns-in-Removing
unfolding count_change
returns-in-Removing c = rw c.in-Removing.is
