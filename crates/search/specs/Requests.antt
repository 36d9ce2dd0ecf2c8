-- The search calls with what a desk asks of a plan besides (02, from P2 on): their tests, what they come to, and what their lists hold.
use Rattle.std.specs.Prelude.{Bool, true, not, ◌&&◌, List, [], ◌∷◌, ℕ, ◌%◌, eqb, leb, length}
use Rattle.refusals.specs.Refusals.{Fault, ask, ◌then◌, Outcome, unless}
use Rattle.node.specs.Matrix.{Matrix, Instance}
use Rattle.node.specs.Node.{root}
use Rattle.rules.specs.Search.{Answer, shown_by}
use Rattle.rules.specs.Tree.{sum, answer}
use Rattle.rules.specs.Longest.{longest}
use Rattle.rules.specs.Requests.{Requests, begun, requested}
use Rattle.dutyfile.specs.declared.Shape.{Shape}
use Rattle.dutyfile.specs.File.{parse, added, instance, shape}
use Rattle.dutyfile.specs.Faults.{within, rising, file_fault, spp1_fault}
use Rattle.answer.specs.Answer.{Values, values_of, plan_numbers}
use Rattle.search.specs.Searching.{call_fault}

-- a pair names two columns from 1 to n, and not one twice
abbrev pub is_pair : ℕ → ℕ → ℕ → Bool
is_pair n a b = within 1 n a && (within 1 n b && not (eqb a b))

-- so does each pair of a list, which holds first and second column in turn
unfoldable pub are_pairs : ℕ → List ℕ → Bool
are_pairs n [] = true
are_pairs n (a ∷ []) = true
are_pairs n (a ∷ (b ∷ ns)) = is_pair n a b && are_pairs n ns

-- 21: the length is even, and there are at most 128 pairs; 20: each names two columns
unfoldable pub pair_fault : ℕ → List ℕ → Fault
pair_fault n ns =
    ask (eqb (length ns % 2) 0) 21
    then ask (leb (length ns) 256) 21
    then ask (are_pairs n ns) 20

-- 14: the agreed columns rise from 1 to n; 15: so do the absent ones; then the pairs
unfoldable pub request_fault : Shape → Requests → Fault
request_fault found q =
    ask (rising 0 found.columns q.agreed) 14
    then ask (rising 0 found.columns q.absent) 15
    then pair_fault found.columns q.pairs

-- 10, 11, 14, 15, 21, 20: where the lent plan list holds so many places
unfoldable pub call_fault_with : Shape → ℕ → ℕ → Requests → Fault
call_fault_with found places limit q = call_fault found places limit then request_fault found q

-- all tests of a call on a file, in sequence
unfoldable pub fault_with : List ℕ → ℕ → Requests → ℕ → Fault
fault_with file limit q places = file_fault file then call_fault_with (shape file) places limit q

-- the rules' answer for a file, by the costs of a search
unfoldable pub answer_with : List ℕ → ℕ → Requests → Answer
answer_with file limit q =
    let p : Instance = instance (parse file) in
    let m : Matrix = p.matrix in
    answer (requested m q (sum m)) m (begun (sum m) m q (root m p.costs)) limit

-- searching a file within a node limit, and what fills the front of the plan list
unfoldable pub searching_with : List ℕ → ℕ → Requests → ℕ → Outcome Values
searching_with file limit q places = unless (fault_with file limit q places) (values_of (added file) (answer_with file limit q))

unfoldable pub plan_list_with : List ℕ → ℕ → Requests → List ℕ
plan_list_with file limit q = plan_numbers (shown_by (answer_with file limit q))

-- the same for the longest duty, which takes SPP1 alone (02, P10); nothing is added then
unfoldable pub longest_answer_with : List ℕ → ℕ → Requests → Answer
longest_answer_with file limit q =
    let p : Instance = instance (parse file) in
    let m : Matrix = p.matrix in
    answer (requested m q (longest m)) m (begun (longest m) m q (root m p.costs)) limit

unfoldable pub longest_searching_with : List ℕ → ℕ → Requests → ℕ → Outcome Values
longest_searching_with file limit q places = unless (spp1_fault file then fault_with file limit q places) (values_of (added file) (longest_answer_with file limit q))

unfoldable pub longest_list_with : List ℕ → ℕ → Requests → List ℕ
longest_list_with file limit q = plan_numbers (shown_by (longest_answer_with file limit q))
