-- The call that finds which sailings can't be crewed (02, P6): its tests, what it comes to, and what its list holds.
use Rattle.std.specs.Prelude.{List, [], ℕ, ◌+◌, ◌-◌, ◌≤◌, leb, length, take, Result, Ok, Err}
use Rattle.refusals.specs.Refusals.{Fault, ask, ◌then◌, Outcome, accepted, refused, unless, number_of}
use Rattle.refusals.specs.declared.Refusal.{Refusal}
use Rattle.dutyfile.specs.declared.Shape.{Shape}
use Rattle.dutyfile.specs.File.{parse, shape}
use Rattle.dutyfile.specs.Faults.{file_fault, spp1_fault}
use Rattle.search.specs.Searching.{call_fault}
use Rattle.trials.specs.Trials.{Finding, no_crew, plan_exists, stopped_at, finding}
use Rattle.uncrewed.specs.declared.UncrewedAnswer.{UncrewedAnswer}
use Rattle.uncrewed.specs.declared.UncrewedAnswer.TheVariants.{NoCrew, PlanExists, Stopped}

-- the values that 02 names
pub data Values : Type 0 where
  is_no_crew : ℕ → ℕ → Values  -- k, and the number of duties shown
  is_plan : Values
  told_stopped : ℕ → Values  -- k

-- what an answer of the code says, in these terms
unfoldable pub told : UncrewedAnswer → Values
told (NoCrew r) = is_no_crew r.row r.columns
told PlanExists = is_plan
told (Stopped k) = told_stopped k

-- what the call answers: these values, or a refusal with its number
unfoldable pub uncrewed_outcome : Result UncrewedAnswer Refusal → Outcome Values
uncrewed_outcome (Ok a) = accepted (told a)
uncrewed_outcome (Err why) = refused (number_of why)

-- the values of a finding, and the columns that it shows
unfoldable pub values_of : Finding → Values
values_of (no_crew k js) = is_no_crew k (length js)
values_of plan_exists = is_plan
values_of (stopped_at k) = told_stopped k

unfoldable pub shown_of : Finding → List ℕ
shown_of (no_crew k js) = js
shown_of plan_exists = []
shown_of (stopped_at k) = []

-- the finding as a reader of the call's answer and of the list afterwards sees it
unfoldable pub seen : Outcome Values → List ℕ → Outcome Finding
seen (accepted (is_no_crew k n)) list = accepted (no_crew k (take n list))
seen (accepted is_plan) list = accepted plan_exists
seen (accepted (told_stopped k)) list = accepted (stopped_at k)
seen (refused n) list = refused n

-- 18: at most 192 columns; 6: with the columns that trial 1 appends, one for each row but the first, at most 4,096 row numbers
unfoldable pub trials_fault : Shape → Fault
trials_fault found = ask (leb found.columns 192) 18 then ask (leb (found.entries + (found.rows - 1)) 4096) 6

-- then 10 and 11
unfoldable pub uncrewed_fault : Shape → ℕ → ℕ → Fault
uncrewed_fault found places limit = trials_fault found then call_fault found places limit

-- the tests of a file before them
unfoldable pub file_uncrewed_fault : List ℕ → ℕ → ℕ → Fault
file_uncrewed_fault file limit places = file_fault file then uncrewed_fault (shape file) places limit

-- the tool on a file of SPP1 (02, P10) within a node limit, where the lent list holds so many places, and what fills the front of the list
unfoldable pub uncrewing : List ℕ → ℕ → ℕ → Outcome Values
uncrewing file limit places = unless (spp1_fault file then file_uncrewed_fault file limit places) (values_of (finding (parse file) limit))

unfoldable pub uncrewed_list : List ℕ → ℕ → List ℕ
uncrewed_list file limit = shown_of (finding (parse file) limit)

-- the numbers of rows, columns and row numbers of an accepted file
pub record Sized (found : Shape) : Type 0 where
  pub one : 1 ≤ found.rows
  pub tall : found.rows ≤ 64
  pub full : found.entries ≤ 4096
