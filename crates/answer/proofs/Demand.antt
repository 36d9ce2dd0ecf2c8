-- Demand 3 by the prices in the file follows from demand 3 by the costs that the search works with, where the price of every choice that
-- counts is its cost less what was added.
use mathlib.Core.Path.{◌≡◌, refl, sym, ap, ◌∙◌}
use mathlib.Core.Bool.{Bool}
use mathlib.Core.List.{List}
use Prim.Native.Nat.{ℕ}
use native.Mathlib.Omega.{arith}
use lib.IntN.{ℤ}
use lib.ListN.{length}
use Rattle.refusals.specs.Refusals.{front}
use Rattle.refusals.proofs.Laws.{front-take}
use Rattle.node.specs.Matrix.{Matrix, Shows, chosen}
use Rattle.rules.specs.declared.Forced.{Forced}
use Rattle.rules.specs.Search.{Incumbent, nothing, plan, Answer, best, none, stopped, shown_by, nodes_of, is_none, is_stopped, after}
use Rattle.rules.specs.Tree.{Variant, full_tree}
use Rattle.rules.specs.Demand.{Demand3}
use Rattle.answer.specs.Answer.{Shown, priced, Values, told_best, told_stopped, lowered, shown_of, values_of, plan_numbers, listed, shown_in, nodes_in, says_none, says_stopped}
use Rattle.answer.specs.Demand.{SignedDemand3}
use Rattle.answer.proofs.Order.{lowered-order}
use Rattle.answer.proofs.Given.{listed-front}

-- what the values of an answer say is what the answer says
module _ (added : ℕ) where
  shown-same : (x : Answer) → shown_in (values_of added x) ≡ shown_of added (shown_by x)
  unfolding shown_in values_of shown_of shown_by
  shown-same (best c b n js) = refl
  shown-same (none n) = refl
  shown-same (stopped k b n) = refl

  nodes-same : (x : Answer) → nodes_in (values_of added x) ≡ nodes_of x
  unfolding nodes_in values_of nodes_of
  nodes-same (best c b n js) = refl
  nodes-same (none n) = refl
  nodes-same (stopped k b n) = refl

  none-same : (x : Answer) → says_none (values_of added x) ≡ is_none x
  unfolding says_none values_of is_none
  none-same (best c b n js) = refl
  none-same (none n) = refl
  none-same (stopped k b n) = refl

  stopped-same : (x : Answer) → says_stopped (values_of added x) ≡ is_stopped x
  unfolding says_stopped values_of is_stopped
  stopped-same (best c b n js) = refl
  stopped-same (none n) = refl
  stopped-same (stopped k b n) = refl

  -- an answer whose values are those of best or stopped
  record IsBest (x : Answer) (c b : ℤ) (n k : ℕ) : Type 0 where
    cost : ℕ
    floor : ℕ
    columns : List ℕ
    is : x ≡ best cost floor n columns
    priced : c ≡ lowered added cost
    bounded : b ≡ lowered added floor
    counted : k ≡ length columns

  is_best_of : (x : Answer) (c b : ℤ) (n k : ℕ) → values_of added x ≡ told_best c b n k → IsBest x c b n k
  unfolding values_of
  is_best_of (best d e m js) c b n k h = let q : m ≡ n = cc in rw q (record { cost = d; floor = e; columns = js; is = refl; priced = cc; bounded = cc; counted = cc })
  is_best_of (none m) c b n k h = absurd (let z : ◌≡◌ {A = ℕ} 0 1 = cc in omega arith)
  is_best_of (stopped i e m) c b n k h = absurd (let z : ◌≡◌ {A = ℕ} 0 1 = cc in omega arith)

  record IsStopped (x : Answer) (b : ℤ) (n : ℕ) : Type 0 where
    kept : Incumbent
    floor : ℕ
    is : x ≡ stopped kept floor n
    bounded : b ≡ lowered added floor

  is_stopped_of : (x : Answer) (b : ℤ) (n : ℕ) (s : Shown) → values_of added x ≡ told_stopped b n s → IsStopped x b n
  unfolding values_of
  is_stopped_of (best d e m js) b n s h = absurd (let z : ◌≡◌ {A = ℕ} 0 1 = cc in omega arith)
  is_stopped_of (none m) b n s h = absurd (let z : ◌≡◌ {A = ℕ} 0 1 = cc in omega arith)
  is_stopped_of (stopped i e m) b n s h = let q : m ≡ n = cc in rw q (record { kept = i; floor = e; is = refl; bounded = cc })

module _ (p : Matrix) (o : Variant) (start : Forced) (Ok : (ℕ → Bool) → Type 0) (cost : (ℕ → Bool) → ℕ) (value : (ℕ → Bool) → ℤ)
    (added limit : ℕ) (same : (X : ℕ → Bool) → Ok X → lowered added (cost X) ≡ value X) (x : Answer)
    (d : Demand3 p o start Ok cost limit x) (list old : List ℕ) (h : list ≡ front (plan_numbers (shown_by x)) old) where
  abbrev v : Values
  v = values_of added x

  plan-shown : (i : Incumbent) → shown_by x ≡ i → (c : ℤ) (k : ℕ) → shown_of added i ≡ priced c k → Shows p Ok value c (listed k list)
  unfolding shown_of plan_numbers
  plan-shown nothing e c k z = absurd (let u : ◌≡◌ {A = ℕ} 0 1 = cc in omega arith)
  plan-shown (plan g js) e c k z =
      let s : Shows p Ok cost g js = d.shown g js e in
      let n : k ≡ length js = cc in
      let l : listed k list ≡ js = listed-front k js old list n (rw e at h) in
      let q : c ≡ lowered added g = cc in
      rw (l, q) (record { listed = s.listed; ok = s.ok; priced = sym (same (chosen js) s.ok) ∙ ap (lowered added) s.priced })

  pub signed_demand : SignedDemand3 p o start Ok value added limit v list
  unfolding shown_in
  signed_demand = record {
    shown = λ c k e. plan-shown (shown_by x) refl c k (sym (shown-same added x) ∙ e);
    best_shown = λ c b n k e. ap shown_in e;
    cheapest = λ c b n k e X ok.
        let q = is_best_of added x c b n k e in
        rw (q.priced, ← same X ok) (lowered-order added q.cost (cost X) (d.cheapest _ _ _ _ q.is X ok));
    best_bound = λ c b n k e. let q = is_best_of added x c b n k e in q.bounded ∙ ap (lowered added) (d.best_bound _ _ _ _ q.is);
    stopped_bound = λ b n s e. let q = is_stopped_of added x b n s e in q.bounded ∙ ap (lowered added) (d.stopped_bound _ _ _ q.is);
    bound = λ X ok. rw (← same X ok) (lowered-order added _ _ (d.bound X ok));
    none_exactly = λ e. rw (none-same added x) (d.none_exactly (sym (stopped-same added x) ∙ e));
    stopped_exactly = rw (stopped-same added x) d.stopped_exactly;
    stopped_count = λ e. nodes-same added x ∙ d.stopped_count (sym (stopped-same added x) ∙ e);
    stopped_shows = λ e.
        let k : shown_by x ≡ after (full_tree o p start) limit = d.stopped_shows (sym (stopped-same added x) ∙ e) in
        (shown-same added x ∙ ap (shown_of added) k, rw (← k, h) (front-take (plan_numbers (shown_by x)) old _ refl));
    count = λ e. nodes-same added x ∙ d.count (sym (stopped-same added x) ∙ e);
    few = d.few;
  }
