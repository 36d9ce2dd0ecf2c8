-- A step on a desk over a file (02, P7): its tests, what it says, and the desk after it.
use Rattle.std.specs.Prelude.{cond, ◌&&◌, List, ℕ, ◌-◌, leb, pos, get_or}
use Rattle.node.specs.Matrix.{body}
use Rattle.refusals.specs.Refusals.{Fault, ask, ◌then◌, Outcome, accepted, refused, unless}
use Rattle.dutyfile.specs.File.{rows_in, columns_in, parse, instance}
use Rattle.dutyfile.specs.Faults.{file_fault}
use Rattle.desk.specs.declared.Way.{Way}
use Rattle.desk.specs.declared.Said.{Said}
use Rattle.desk.specs.declared.Said.TheVariants.{Changed, Unchanged}
use Rattle.desk.specs.Desk.{Desk, empty_desk, changes, moved}

-- 1 to 9 for the file, then 19: the column's number is from 1 to n
unfoldable pub step_fault : List ℕ → ℕ → Fault
step_fault file number = file_fault file then ask (leb 1 number && leb number (columns_in file)) 19

-- what a step says
unfoldable pub stepping : Way → List ℕ → ℕ → Desk → Outcome Said
stepping way file number d = unless (step_fault file number) (cond (changes way (get_or d.marks (number - 1) 0)) Changed Unchanged)

-- the desk after a call that says so: the new one, or, unchanged or refused, the former one
unfoldable pub after : Outcome Said → Desk → Desk → Desk
after (accepted Changed) new old = new
after (accepted Unchanged) new old = old
after (refused n) new old = old

-- the column with this number moved, with its rows and its cost in the file
unfoldable pub moved_by : Way → List ℕ → ℕ → Desk → Desk
moved_by way file number d = moved way (number - 1) (body (instance (parse file)).matrix (number - 1)) (get_or (parse file).costs (number - 1) (pos 0)) d

-- the desk after a step
unfoldable pub stepped : Way → List ℕ → ℕ → Desk → Desk
stepped way file number d = after (stepping way file number d) (moved_by way file number d) d

-- the desk after it was made empty over a file
unfoldable pub emptied : List ℕ → Desk → Desk
emptied file d = after (unless (file_fault file) Changed) (empty_desk (rows_in file)) d
