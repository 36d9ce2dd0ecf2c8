-- The search call: its tests, what it comes to, and what its list holds.
use Rattle.std.specs.Prelude.{List, ℕ}
use Rattle.refusals.specs.Refusals.{Fault, ask, ◌then◌, Outcome, unless}
use Rattle.node.specs.Matrix.{Instance}
use Rattle.node.specs.Node.{root}
use Rattle.rules.specs.Search.{Answer, shown_by}
use Rattle.rules.specs.Tree.{sum, live, answer}
use Rattle.dutyfile.specs.declared.Shape.{Shape}
use Rattle.dutyfile.specs.File.{parse, added, instance, shape}
use Rattle.dutyfile.specs.Faults.{within, file_fault, room}
use Rattle.answer.specs.Answer.{Values, values_of, plan_numbers}

-- 10: the plan list holds m places at least; 11: the node limit (01: allowance) is from 1 to 1,000,000
unfoldable pub call_fault : Shape → ℕ → ℕ → Fault
call_fault found places limit = room found.rows places then ask (within 1 1000000 limit) 11

-- the rules' answer for a file, by the costs of a search
unfoldable pub file_answer : List ℕ → ℕ → Answer
file_answer file limit = let p : Instance = instance (parse file) in answer (sum p.matrix) p.matrix (live (root p.matrix p.costs)) limit

-- searching a file within a node limit, where the lent plan list holds so many places
unfoldable pub searching : List ℕ → ℕ → ℕ → Outcome Values
searching file limit places = unless (file_fault file then call_fault (shape file) places limit) (values_of (added file) (file_answer file limit))

-- what fills the front of the plan list
unfoldable pub plan_list : List ℕ → ℕ → List ℕ
plan_list file limit = plan_numbers (shown_by (file_answer file limit))
