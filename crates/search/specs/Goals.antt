-- The two calls as one, by the goal, for the code that serves both.
use Rattle.std.specs.Prelude.{Bool, List, ℕ, ℤ, pos}
use Rattle.refusals.specs.Refusals.{Fault, fine, Outcome, unless}
use Rattle.node.specs.Matrix.{Matrix, Instance, signed_price}
use Rattle.node.specs.Node.{root}
use Rattle.rules.specs.declared.Goal.{Goal}
use Rattle.rules.specs.declared.Goal.TheVariants.{Sum, Longest}
use Rattle.rules.specs.Search.{Answer, shown_by}
use Rattle.rules.specs.Tree.{answer}
use Rattle.rules.specs.Demand.{Demand3}
use Rattle.rules.specs.Longest.{dearest}
use Rattle.rules.specs.Goals.{search_for, value_for}
use Rattle.rules.specs.Requests.{Requests, begun, requested, Granted}
use Rattle.dutyfile.specs.File.{parse, added, instance}
use Rattle.dutyfile.specs.Faults.{spp1_fault}
use Rattle.answer.specs.Answer.{Values, values_of, plan_numbers}
use Rattle.answer.specs.Demand.{SignedDemand3}
use Rattle.search.specs.Requests.{fault_with}

unfoldable pub answer_for : Goal → List ℕ → ℕ → Requests → Answer
answer_for g file limit q =
    let p : Instance = instance (parse file) in
    let m : Matrix = p.matrix in
    answer (requested m q (search_for g m)) m (begun (search_for g m) m q (root m p.costs)) limit

unfoldable pub searching_for : Goal → List ℕ → ℕ → Requests → ℕ → Outcome Values
searching_for g file limit q places = unless (fault_with file limit q places) (values_of (added file) (answer_for g file limit q))

unfoldable pub list_for : Goal → List ℕ → ℕ → Requests → List ℕ
list_for g file limit q = plan_numbers (shown_by (answer_for g file limit q))

-- the test of a call before all others
unfoldable pub first_fault : Goal → List ℕ → Fault
first_fault Sum file = fine
first_fault Longest file = spp1_fault file

-- what a choice costs by the prices in the file
unfoldable pub priced_for : Goal → List ℕ → (ℕ → Bool) → ℤ
priced_for Sum file = signed_price (instance (parse file)).matrix (parse file).costs
priced_for Longest file = λ X. pos (dearest (instance (parse file)).matrix (instance (parse file)).costs X)

-- demand 3 of the rules' answer for a file, by the costs of a search
abbrev pub CostDemandFor : Goal → List ℕ → ℕ → Requests → Answer → Type 0
CostDemandFor g file limit q x =
    let p : Instance = instance (parse file) in
    let m : Matrix = p.matrix in
    Demand3 m (requested m q (search_for g m)) (begun (search_for g m) m q (root m p.costs)) (Granted m q) (value_for g m p.costs) limit x

-- and of what the call answers and its plan list, by the prices in the file
abbrev pub DemandFor : Goal → List ℕ → ℕ → Requests → Values → List ℕ → Type 0
DemandFor g file limit q v list =
    let p : Instance = instance (parse file) in
    let m : Matrix = p.matrix in
    SignedDemand3 m (requested m q (search_for g m)) (begun (search_for g m) m q (root m p.costs)) (Granted m q) (priced_for g file) (added file) limit v list
