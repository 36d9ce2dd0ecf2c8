-- Demand 3 holds of the rules' answer for every file, node limit and lists that pass their tests, by the costs of a search; and so by the
-- prices in the file.
use mathlib.Core.Path.{◌≡◌}
use mathlib.Core.Bool.{Bool}
use mathlib.Core.List.{List}
use Prim.Native.Nat.{ℕ}
use native.Mathlib.Nat.{add-zero}
use Rattle.refusals.specs.Refusals.{fine, front}
use Rattle.refusals.proofs.Laws.{both}
use Rattle.node.specs.Matrix.{Matrix, IsPlan}
use Rattle.rules.specs.declared.Goal.{Goal}
use Rattle.rules.specs.declared.Goal.TheVariants.{Sum, Longest}
use Rattle.rules.specs.Search.{shown_by}
use Rattle.rules.specs.Goals.{value_for}
use Rattle.rules.specs.Requests.{Requests}
use Rattle.rules.proofs.Requests.{goal_demand_3}
use Rattle.dutyfile.specs.File.{parse, added, instance, shape}
use Rattle.dutyfile.proofs.Facts.{Accepted, file-fine}
use Rattle.dutyfile.proofs.Marks.{spp1_added}
use Rattle.matrix.proofs.Accepted.{file-small, file-wide}
use Rattle.matrix.proofs.Raised.{price-lowered}
use Rattle.answer.specs.Answer.{lowered, values_of, plan_numbers}
use Rattle.answer.proofs.Demand.{signed_demand}
use Rattle.search.specs.Requests.{call_fault_with, fault_with}
use Rattle.search.specs.Goals.{answer_for, first_fault, priced_for, CostDemandFor, DemandFor}
use Rattle.search.proofs.Listed.{listed}

pub demanded : (g : Goal) (s : List ℕ) (limit : ℕ) (q : Requests) (places : ℕ) → fault_with s limit q places ≡ fine
    → CostDemandFor g s limit q (answer_for g s limit q)
unfolding call_fault_with fault_with answer_for shape instance
demanded g s limit q places h =
    let b = both _ _ h in
    let a : Accepted s = file-fine s b.0 in
    let p : Matrix = (instance (parse s)).matrix in
    goal_demand_3 g p (file-small s a).fits (instance (parse s)).costs q (listed p (shape s) q (file-wide s a) (both _ _ b.1).1) limit

-- a plan's price is its cost in the search less what was added
priced-same : (g : Goal) (s : List ℕ) → Accepted s → first_fault g s ≡ fine → (X : ℕ → Bool) → IsPlan (instance (parse s)).matrix X
    → lowered (added s) (value_for g (instance (parse s)).matrix (instance (parse s)).costs X) ≡ priced_for g s X
unfolding value_for priced_for first_fault instance parse
priced-same Sum s a e X plan = price-lowered s a X plan
priced-same Longest s a e X plan = rw (spp1_added s e, add-zero)

pub signed_demanded : (g : Goal) (s : List ℕ) (limit : ℕ) (q : Requests) (places : ℕ) → first_fault g s ≡ fine → fault_with s limit q places ≡ fine
    → (list old : List ℕ) → list ≡ front (plan_numbers (shown_by (answer_for g s limit q))) old
    → DemandFor g s limit q (values_of (added s) (answer_for g s limit q)) list
unfolding fault_with
signed_demanded g s limit q places e h list old f =
    let a : Accepted s = file-fine s (both _ _ h).0 in
    signed_demand _ _ _ _ _ (priced_for g s) (added s) limit (λ X ok. priced-same g s a e X ok.ok.ok) _ (demanded g s limit q places h) list old f
