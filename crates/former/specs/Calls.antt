-- The reader, the writer, the plan check, the reducing call and the desk's steps as they were before SPP2. The tests of a call read m, n and t of
-- `shape`, which gives them as before.
use Rattle.std.specs.Prelude.{Bool, cond, ◌&&◌, List, map, ℕ, zero, suc, ◌-◌, eqb, leb, pos, length, get_or, take}
use Rattle.refusals.specs.Refusals.{Fault, ask, ◌then◌, Outcome, unless}
use Rattle.node.specs.Matrix.{Matrix, Instance, body, count, price, named}
use Rattle.node.specs.Node.{root}
use Rattle.rules.specs.Reduce as rules
use Rattle.dutyfile.specs.File.{rows_in, columns_in, shape}
use Rattle.dutyfile.specs.Faults.{rising, room, rooms_fault}
use Rattle.reduce.specs.Answer.{lists_fault}
use Rattle.desk.specs.declared.Way.{Way}
use Rattle.desk.specs.Desk.{Desk, empty_desk, changes, moved}
use Rattle.desk.specs.declared.Said.{Said}
use Rattle.desk.specs.declared.Said.TheVariants.{Changed, Unchanged}
use Rattle.desk.specs.Steps.{after}
use Rattle.former.specs.File.{FormerLists, former_parse, former_render, former_instance, FormerShape, former_shape}
use Rattle.former.specs.Faults.{former_file_fault, former_lists_fault}
use Rattle.former.specs.Answers.{FormerVerdict, former_plan, former_not_once, FormerBound}

-- reading a file, where the three lent lists hold c, l and r places
unfoldable pub former_reading : List ℕ → ℕ → ℕ → ℕ → Outcome FormerShape
former_reading s c l r = unless (former_file_fault s then rooms_fault (shape s) c l r) (former_shape s)

-- writing lists, where the lent buffer holds k places: the file's length
unfoldable pub former_writing : FormerLists → ℕ → Outcome ℕ
former_writing d k = unless (former_lists_fault d then room (length (former_render d)) k) (length (former_render d))

-- the lowest of m rows from row i on that is not covered exactly once, where `covered` says how often each is
unfoldable pub former_lowest : (ℕ → ℕ) → ℕ → ℕ → ℕ → FormerVerdict
former_lowest covered cost zero i = former_plan cost
former_lowest covered cost (suc m) i = cond (eqb (covered i) 1) (former_lowest covered cost m (suc i)) (former_not_once (suc i) (covered i))

-- what a choice of columns comes to
unfoldable pub former_verdict : Matrix → List ℕ → (ℕ → Bool) → FormerVerdict
former_verdict p costs X = former_lowest (λ i. count p i X) (price p costs X) p.rows 0

-- 1 to 9 for the file, then 12: the offered columns rise from 1 to n
unfoldable pub former_checking : List ℕ → List ℕ → Outcome FormerVerdict
former_checking s js =
    unless (former_file_fault s then ask (rising 0 (columns_in s) js) 12) (former_verdict (former_instance (former_parse s)).matrix (former_parse s).costs (named js))

-- the file as it stands, reduced: all rows open, all columns free, bound 0
unfoldable pub former_reduced_root : List ℕ → rules.Reduced
former_reduced_root file = let p : Instance = former_instance (former_parse file) in rules.reduce p.matrix (root p.matrix p.costs)

unfoldable pub former_bound_of : List ℕ → FormerBound
former_bound_of file = record { bound = (former_reduced_root file).node.bound; used = length (former_reduced_root file).used }

-- n reduced costs (01: reduced prices)
unfoldable pub former_reduced_costs : List ℕ → List ℕ
former_reduced_costs file = take (shape file).columns (former_reduced_root file).node.cost

-- the rows in the sequence used, numbered from 1
unfoldable pub former_used_rows : List ℕ → List ℕ
former_used_rows file = map suc (former_reduced_root file).used

-- reducing a file, where the two lent lists hold c and o places
unfoldable pub former_reducing : List ℕ → ℕ → ℕ → Outcome FormerBound
former_reducing file c o = unless (former_file_fault file then lists_fault (shape file) c o) (former_bound_of file)

-- 1 to 9 for the file, then 19: the column's number is from 1 to n
unfoldable pub former_step_fault : List ℕ → ℕ → Fault
former_step_fault file number = former_file_fault file then ask (leb 1 number && leb number (columns_in file)) 19

-- what a step says
unfoldable pub former_stepping : Way → List ℕ → ℕ → Desk → Outcome Said
former_stepping way file number d = unless (former_step_fault file number) (cond (changes way (get_or d.marks (number - 1) 0)) Changed Unchanged)

-- the column with this number moved, with its rows and its cost in the file
unfoldable pub former_moved_by : Way → List ℕ → ℕ → Desk → Desk
former_moved_by way file number d =
    moved way (number - 1) (body (former_instance (former_parse file)).matrix (number - 1)) (pos (get_or (former_parse file).costs (number - 1) 0)) d

-- the desk after a step
unfoldable pub former_stepped : Way → List ℕ → ℕ → Desk → Desk
former_stepped way file number d = after (former_stepping way file number d) (former_moved_by way file number d) d

-- the desk after it was made empty over a file
unfoldable pub former_emptied : List ℕ → Desk → Desk
former_emptied file d = after (unless (former_file_fault file) Changed) (empty_desk (rows_in file)) d
