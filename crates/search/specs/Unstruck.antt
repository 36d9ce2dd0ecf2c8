-- The search calls as P8 had them, in which nothing is struck from the agreed list: the answers of before P9. Their tests are those of the
-- calls now.
use Rattle.std.specs.Prelude.{List, ℕ}
use Rattle.refusals.specs.Refusals.{◌then◌, Outcome, unless}
use Rattle.node.specs.Matrix.{Matrix, Instance}
use Rattle.node.specs.Node.{root}
use Rattle.rules.specs.Search.{Answer, shown_by}
use Rattle.rules.specs.declared.Goal.{Goal}
use Rattle.rules.specs.Tree.{answer}
use Rattle.rules.specs.Goals.{search_for}
use Rattle.rules.specs.Requests.{Requests, unstruck_start, requested}
use Rattle.dutyfile.specs.File.{parse, added, instance}
use Rattle.answer.specs.Answer.{Values, values_of, plan_numbers}
use Rattle.search.specs.Requests.{fault_with}
use Rattle.search.specs.Goals.{first_fault}

-- the rules' answer for a file, for a goal
unfoldable pub unstruck_answer : Goal → List ℕ → ℕ → Requests → Answer
unstruck_answer g file limit q =
    let p : Instance = instance (parse file) in
    let m : Matrix = p.matrix in
    answer (requested m q (search_for g m)) m (unstruck_start (search_for g m) m q (root m p.costs)) limit

-- searching a file within a node limit, and what fills the front of the plan list
unfoldable pub unstruck_searching : Goal → List ℕ → ℕ → Requests → ℕ → Outcome Values
unstruck_searching g file limit q places = unless (first_fault g file then fault_with file limit q places) (values_of (added file) (unstruck_answer g file limit q))

unfoldable pub unstruck_list : Goal → List ℕ → ℕ → Requests → List ℕ
unstruck_list g file limit q = plan_numbers (shown_by (unstruck_answer g file limit q))
