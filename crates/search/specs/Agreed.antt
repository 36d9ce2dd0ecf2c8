-- The search calls as P2 had them, with agreed and absent columns alone: what an empty list of pairs gives (02, P8).
use Rattle.std.specs.Prelude.{List, ℕ}
use Rattle.refusals.specs.Refusals.{Fault, ask, ◌then◌, Outcome, unless}
use Rattle.node.specs.Matrix.{Matrix, Instance}
use Rattle.node.specs.Node.{root}
use Rattle.rules.specs.Search.{Answer, shown_by}
use Rattle.rules.specs.declared.Goal.{Goal}
use Rattle.rules.specs.Tree.{answer}
use Rattle.rules.specs.Goals.{search_for}
use Rattle.rules.specs.Agreed.{agreed_start}
use Rattle.rules.specs.Requests.{columns_of}
use Rattle.dutyfile.specs.File.{parse, added, instance, shape}
use Rattle.dutyfile.specs.Faults.{rising, file_fault}
use Rattle.answer.specs.Answer.{Values, values_of, plan_numbers}
use Rattle.search.specs.Searching.{call_fault}
use Rattle.search.specs.Goals.{first_fault}

-- the tests of a file, 10 and 11; then 14: the agreed columns rise from 1 to n; 15: so do the absent ones
unfoldable pub agreed_fault : List ℕ → ℕ → List ℕ → List ℕ → ℕ → Fault
agreed_fault file limit agreed absent places =
    file_fault file
    then call_fault (shape file) places limit
    then ask (rising 0 (shape file).columns agreed) 14
    then ask (rising 0 (shape file).columns absent) 15

-- the rules' answer for a file, for a goal
unfoldable pub agreed_answer : Goal → List ℕ → ℕ → List ℕ → List ℕ → Answer
agreed_answer g file limit agreed absent =
    let p : Instance = instance (parse file) in
    let m : Matrix = p.matrix in
    answer (search_for g m) m (agreed_start (search_for g m).join m (columns_of agreed) (columns_of absent) (root m p.costs)) limit

-- searching a file within a node limit, and what fills the front of the plan list
unfoldable pub agreed_searching : Goal → List ℕ → ℕ → List ℕ → List ℕ → ℕ → Outcome Values
agreed_searching g file limit agreed absent places =
    unless (first_fault g file then agreed_fault file limit agreed absent places) (values_of (added file) (agreed_answer g file limit agreed absent))

unfoldable pub agreed_list : Goal → List ℕ → ℕ → List ℕ → List ℕ → List ℕ
agreed_list g file limit agreed absent = plan_numbers (shown_by (agreed_answer g file limit agreed absent))
