-- The longest-duty search call (02, P1): what it comes to, and what its list holds. Its tests are those of the search call.
use Rattle.std.specs.Prelude.{List, ℕ}
use Rattle.refusals.specs.Refusals.{◌then◌, Outcome, unless}
use Rattle.node.specs.Matrix.{Instance}
use Rattle.node.specs.Node.{root}
use Rattle.rules.specs.Search.{Answer, shown_by}
use Rattle.rules.specs.Tree.{live, answer}
use Rattle.rules.specs.Longest.{longest}
use Rattle.dutyfile.specs.File.{parse, added, instance, shape}
use Rattle.dutyfile.specs.Faults.{file_fault, spp1_fault}
use Rattle.answer.specs.Answer.{Values, values_of, plan_numbers}
use Rattle.search.specs.Searching.{call_fault}

-- the rules' answer for a file
unfoldable pub longest_answer : List ℕ → ℕ → Answer
longest_answer file limit = let p : Instance = instance (parse file) in answer (longest p.matrix) p.matrix (live (root p.matrix p.costs)) limit

-- searching a file within a node limit, where the lent plan list holds so many places
unfoldable pub longest_searching : List ℕ → ℕ → ℕ → Outcome Values
longest_searching file limit places = unless (spp1_fault file then file_fault file then call_fault (shape file) places limit) (values_of (added file) (longest_answer file limit))

-- what fills the front of the plan list
unfoldable pub longest_list : List ℕ → ℕ → List ℕ
longest_list file limit = plan_numbers (shown_by (longest_answer file limit))
