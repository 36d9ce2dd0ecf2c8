-- The searches and the program as they were before SPP2.
use Rattle.std.specs.Prelude.{List, [], ◌∷◌, ◌++◌, ℕ}
use Rattle.refusals.specs.Refusals.{Fault, ◌then◌, Outcome, accepted, refused, unless}
use Rattle.node.specs.Matrix.{Matrix, Instance}
use Rattle.node.specs.Node.{root}
use Rattle.rules.specs.Search.{Answer, shown_by}
use Rattle.rules.specs.Tree.{sum, live, answer}
use Rattle.rules.specs.Longest.{longest}
use Rattle.rules.specs.Requests.{Requests, begun, requested}
use Rattle.dutyfile.specs.File.{shape}
use Rattle.answer.specs.Answer.{plan_numbers}
use Rattle.search.specs.Searching.{call_fault}
use Rattle.search.specs.Requests.{call_fault_with}
use Rattle.line.specs.Line.{decimal, best, none, stopped, refusal, dash}
use Rattle.former.specs.File.{former_parse, former_instance}
use Rattle.former.specs.Faults.{former_file_fault}
use Rattle.former.specs.Answers.{former_no_plan, former_priced, FormerValues, former_best, former_none, former_stopped, former_values_of}

-- all tests of a call on a file, in sequence
unfoldable pub former_fault_with : List ℕ → ℕ → Requests → ℕ → Fault
former_fault_with file limit q places = former_file_fault file then call_fault_with (shape file) places limit q

-- the rules' answer for a file
unfoldable pub former_answer_with : List ℕ → ℕ → Requests → Answer
former_answer_with file limit q =
    let p : Instance = former_instance (former_parse file) in
    let m : Matrix = p.matrix in
    answer (requested m q (sum m)) m (begun (sum m) m q (root m p.costs)) limit

-- searching a file within a node limit, and what fills the front of the plan list
unfoldable pub former_searching_with : List ℕ → ℕ → Requests → ℕ → Outcome FormerValues
former_searching_with file limit q places = unless (former_fault_with file limit q places) (former_values_of (former_answer_with file limit q))

unfoldable pub former_plan_list_with : List ℕ → ℕ → Requests → List ℕ
former_plan_list_with file limit q = plan_numbers (shown_by (former_answer_with file limit q))

-- the same for the longest duty
unfoldable pub former_longest_answer_with : List ℕ → ℕ → Requests → Answer
former_longest_answer_with file limit q =
    let p : Instance = former_instance (former_parse file) in
    let m : Matrix = p.matrix in
    answer (requested m q (longest m)) m (begun (longest m) m q (root m p.costs)) limit

unfoldable pub former_longest_searching_with : List ℕ → ℕ → Requests → ℕ → Outcome FormerValues
former_longest_searching_with file limit q places = unless (former_fault_with file limit q places) (former_values_of (former_longest_answer_with file limit q))

unfoldable pub former_longest_list_with : List ℕ → ℕ → Requests → List ℕ
former_longest_list_with file limit q = plan_numbers (shown_by (former_longest_answer_with file limit q))

-- with nothing asked besides: the search of 01, which the program makes
unfoldable pub former_file_answer : List ℕ → ℕ → Answer
former_file_answer file limit =
    let p : Instance = former_instance (former_parse file) in
    answer (sum p.matrix) p.matrix (live (root p.matrix p.costs)) limit

unfoldable pub former_searching : List ℕ → ℕ → ℕ → Outcome FormerValues
former_searching file limit places = unless (former_file_fault file then call_fault (shape file) places limit) (former_values_of (former_file_answer file limit))

unfoldable pub former_plan_list : List ℕ → ℕ → List ℕ
former_plan_list file limit = plan_numbers (shown_by (former_file_answer file limit))

-- a space and a number; no number of 64 bits has more than 20 digits
unfoldable pub former_field : ℕ → List ℕ
former_field n = 32 ∷ decimal 20 n

unfoldable pub former_fields : List ℕ → List ℕ
former_fields [] = []
former_fields (n ∷ ns) = former_field n ++ former_fields ns

-- a word and numbers: price, root floor, nodes, duties; or nodes; or the number of a refusal
unfoldable pub former_words_of : Outcome FormerValues → List ℕ
former_words_of (accepted (former_best price floor nodes duties)) = best ++ former_fields (price ∷ floor ∷ nodes ∷ duties ∷ [])
former_words_of (accepted (former_none nodes)) = none ++ former_fields (nodes ∷ [])
former_words_of (accepted (former_stopped floor nodes (former_priced price duties))) = stopped ++ former_fields (price ∷ floor ∷ nodes ∷ duties ∷ [])
former_words_of (accepted (former_stopped floor nodes former_no_plan)) = stopped ++ dash ++ former_fields (floor ∷ nodes ∷ 0 ∷ [])
former_words_of (refused number) = refusal ++ former_fields (number ∷ [])

-- a line feed ends the line
unfoldable pub former_line_of : Outcome FormerValues → List ℕ
former_line_of o = former_words_of o ++ (10 ∷ [])

-- the line that the program printed for a file
unfoldable pub former_program_line : List ℕ → List ℕ
former_program_line file = former_line_of (former_searching file 1000000 64)
