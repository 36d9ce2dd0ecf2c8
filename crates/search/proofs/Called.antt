-- The public call: a file is refused by its own tests, then by the plan list's room, the node limit and the lists of columns; and
-- otherwise what is given is the answer of the rules, of which demand 3 is proved.
use mathlib.Core.Path.{◌≡◌, refl, sym, ◌∙◌}
use mathlib.Core.List.{List}
use Prim.Native.Nat.{ℕ, ◌≤◌}
use native.Mathlib.Omega.{arith}
use borrow.Author.Tests.{leb-true}
use Rattle.refusals.specs.Refusals.{fine, fault, accepted, refused, front, filled}
use Rattle.refusals.proofs.Laws.{both, asked, stops_at, goes_on, unless-fine, unless-fault, fills}
use Rattle.node.specs.Matrix.{Matrix, width, Shows}
use Rattle.node.specs.declared.Node.{Node}
use Rattle.node.specs.Node.{root}
use Rattle.node.specs.Stored.{matrix_in, Small}
use Rattle.rules.specs.Search.{plan, shown_by}
use Rattle.rules.specs.declared.Goal.{Goal}
use Rattle.rules.specs.declared.Goal.TheVariants.{Sum, Longest}
use Rattle.rules.specs.declared.Forced.{Forced}
use Rattle.rules.specs.Tree.{answer}
use Rattle.rules.specs.Agreed.{agreed_start}
use Rattle.rules.specs.Goals.{search_for, search_with, value_for}
use Rattle.rules.specs.Requests.{Requests, columns_of, to_hold, begun, Granted}
use Rattle.rules.proofs.Plans.{plan-short}
use Rattle.rules.proofs.Goals.{WorkableFor, goal_root}
use Rattle.rules.proofs.Requests.{Askable, begun-workable}
use Rattle.dutyfile.specs.declared.Shape.{Shape}
use Rattle.dutyfile.specs.File.{parse, shift, added, instance, shape}
use Rattle.dutyfile.specs.Faults.{file_fault, spp1_fault}
use Rattle.dutyfile.proofs.Facts.{ask-within}
use Rattle.requests.specs.Numbers.{Begins}
use Rattle.lists.specs.Loaded.{Loaded}
use Rattle.tally.specs.Tally.{taken_in}
use Rattle.solver.specs.declared.Solved.{Solved}
use Rattle.solver.specs.Solved.{Searchable, solved_answer}
use Rattle.refusals.specs.declared.Refusal.{Refusal}
use Rattle.answer.specs.declared.SearchAnswer.{SearchAnswer}
use Rattle.std.specs.Prelude.{Result}
use Rattle.answer.specs.Answer.{Values, search_outcome, values_of, plan_numbers}
use Rattle.answer.specs.Plan.{PlanFits}
use Rattle.answer.proofs.Given.{kept-shown}
use Rattle.search.specs.Searching.{call_fault}
use Rattle.search.specs.Requests.{request_fault, call_fault_with, fault_with}
use Rattle.search.specs.Goals.{answer_for, first_fault, searching_for, list_for, CostDemandFor, DemandFor}
use Rattle.search.proofs.Listed.{numbers, listed}
use Rattle.search.proofs.Demanded.{demanded, signed_demanded}

-- demand 3 of what is answered
abbrev Demanded : Goal → List ℕ → ℕ → Requests → Result SearchAnswer Refusal → List ℕ → Type 0
Demanded g file limit q r list = (v : Values) → search_outcome r ≡ accepted v → DemandFor g file limit q v list

-- a file that is read, with its root, for a call that passes its tests
pub record Rooted (s : List ℕ) (limit places : ℕ) (q : Requests) (found : Shape) (l : List ℕ) (first : Node) : Type 0 where
  pub costs : List ℕ
  pub file : Loaded s found l costs
  pub fits : call_fault_with found places limit q ≡ fine
  pub is : first ≡ root (matrix_in l) costs

pub rooted : {s : List ℕ} {limit places : ℕ} {q : Requests} {found : Shape} {l costs : List ℕ} {first : Node} → Loaded s found l costs
    → call_fault_with found places limit q ≡ fine → first ≡ root (matrix_in l) costs → Rooted s limit places q found l first
rooted k h e = record { costs = _; file = k; fits = h; is = e }

-- a file of SPP1 passes the first test of either call
pub first_fine : (g : Goal) (s : List ℕ) → spp1_fault s ≡ fine → first_fault g s ≡ fine
unfolding first_fault
first_fine Sum s e = refl
first_fine Longest s e = e

pub few-rows : (s : List ℕ) (limit places : ℕ) (q : Requests) (found : Shape) (l : List ℕ) (first : Node) → Rooted s limit places q found l first
    → found.rows ≤ 64
few-rows s limit places q found l first w = omega (arith, w.file.rows_is, w.file.kept.small.fits.tall)

module _ (g : Goal) (s : List ℕ) (limit places : ℕ) (q : Requests) where
  pub refused-file : (k : ℕ) → file_fault s ≡ fault k → refused k ≡ searching_for g s limit q places
  unfolding searching_for fault_with
  refused-file k h = unless-fault _ k (stops_at k _ h)

  pub refused-call : (found : Shape) (l costs : List ℕ) → Loaded s found l costs
      → (n : ℕ) → call_fault_with found places limit q ≡ fault n → refused n ≡ searching_for g s limit q places
  unfolding searching_for fault_with
  refused-call found l costs k n h = unless-fault _ n (goes_on _ k.passes ∙ rw (sym k.shape_is) at h)

  module _ (found : Shape) (l : List ℕ) (first : Node) (w : Rooted s limit places q found l first) where
    fits-call : call_fault found places limit ≡ fine
    unfolding call_fault_with
    fits-call = (both _ _ w.fits).0

    fits-lists : request_fault found q ≡ fine
    unfolding call_fault_with
    fits-lists = (both _ _ w.fits).1

    all_fine : fault_with s limit q places ≡ fine
    unfolding fault_with
    all_fine = goes_on _ w.file.passes ∙ rw (sym w.file.shape_is) at w.fits

    workable : WorkableFor g l (root (matrix_in l) w.costs)
    workable = goal_root g l w.costs w.file.workable

    pub begins : Begins g l first q.agreed q.absent
    begins =
        let n = numbers (matrix_in l) found q w.file.columns_is fits-lists in
        record { some = rw w.is workable; agreed = n.0; absent = n.1 }

    module _ (start : Forced)
        (starts : start ≡ agreed_start (search_for g (matrix_in l)).join (matrix_in l) (to_hold q) (columns_of q.absent) first) where
      pub searchable : Searchable g q.pairs l start.node limit
      unfolding call_fault begun
      searchable =
          let h = ask-within 1 1000000 limit 11 (both _ _ fits-call).1 in
          let a : Askable (matrix_in l) q = listed (matrix_in l) found q w.file.columns_is fits-lists in
          record {
            some = record {
              some = rw (starts, w.is) (begun-workable g l w.costs q a workable);
              fits = (numbers (matrix_in l) found q w.file.columns_is fits-lists).2;
            };
            one = h.least;
            limited = h.most;
          }

      module _ (done : Solved) (ends : solved_answer (width (matrix_in l)) done ≡ answer (search_with g q.pairs (matrix_in l)) (matrix_in l) start limit) where
        answers : solved_answer found.columns done ≡ answer_for g s limit q
        unfolding answer_for instance begun
        answers = rw (← w.file.columns_is) (ends ∙ rw (starts, w.is ∙ w.file.root_is, w.file.is))

        small : Small (instance (parse s)).matrix
        small = rw w.file.is at w.file.kept.small

        demand : CostDemandFor g s limit q (answer_for g s limit q)
        demand = demanded g s limit q places all_fine

        pub plan-fits : PlanFits done found.columns places
        unfolding call_fault instance
        plan-fits = record {
          wide = omega (arith, w.file.columns_is, w.file.kept.small.fits.wide);
          room = λ h.
              let p : Matrix = (instance (parse s)).matrix in
              let js : List ℕ = taken_in found.columns done.tally.plan in
              let e : shown_by (answer_for g s limit q) ≡ plan done.tally.cost js = rw answers at (kept-shown found.columns done h) in
              let x : Shows p (Granted p q) (value_for g p (instance (parse s)).costs) done.tally.cost js = demand.shown _ _ e in
              let r : found.rows ≤ places = leb-true _ _ (asked _ 10 (both _ _ fits-call).0) in
              omega (arith, plan-short p small js x.listed x.ok.ok.ok, rw w.file.is at w.file.rows_is, r);
        }

        module _ (r : Result SearchAnswer Refusal) (by : ℕ) (so : by ≡ shift found.edition found.rows)
            (told : search_outcome r ≡ accepted (values_of by (solved_answer found.columns done))) where
          by-is : by ≡ added s
          unfolding shape
          by-is = rw (← w.file.shape_is) at so

          pub given-answer : search_outcome r ≡ searching_for g s limit q places
          unfolding searching_for
          given-answer = told ∙ rw (answers, by-is) (unless-fine (values_of (added s) (answer_for g s limit q)) all_fine)

          pub given-plan : (new old : List ℕ) → new ≡ front (plan_numbers (shown_by (solved_answer found.columns done))) old →
              new ≡ filled (search_outcome r) (list_for g s limit q) old
          unfolding list_for
          given-plan new old h = rw answers at h ∙ sym (fills _ (list_for g s limit q) old told)

          pub given_demand : first_fault g s ≡ fine → (new old : List ℕ) → new ≡ front (plan_numbers (shown_by (solved_answer found.columns done))) old →
              Demanded g s limit q r new
          given_demand first new old h = λ v e.
              let z : accepted v ≡ accepted (values_of (added s) (answer_for g s limit q)) = sym e ∙ told ∙ rw (answers, by-is) in
              let y : values_of (added s) (answer_for g s limit q) ≡ v = cc in
              rw y at (signed_demanded g s limit q places first all_fine new old (rw answers at h))
