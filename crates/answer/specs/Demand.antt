-- Demand 3 by the prices in the file, below 0 too (02, P10), as a statement about the values v that a search call answers and the plan list
-- afterwards. It has the sentences of `Demand3` (crates/rules/specs/Demand.antt), whose costs are those that the search works with: `added`
-- is what the search added to the price of every plan.
use Rattle.std.specs.Prelude.{◌≡◌, Bool, true, false, List, ◌↔◌, ℕ, ◌-◌, ◌^◌, ◌≤◌, ◌<◌, ℤ, length, take, ◌≤ℤ◌}
use Rattle.node.specs.Matrix.{Matrix, width, Shows}
use Rattle.rules.specs.declared.Forced.{Forced}
use Rattle.rules.specs.Search.{Incumbent, nodes, after}
use Rattle.rules.specs.Tree.{Variant, full_tree, root_bound}
use Rattle.answer.specs.Answer.{Shown, priced, Values, told_best, told_stopped, lowered, shown_of, plan_numbers, listed, shown_in, nodes_in, says_none, says_stopped}

pub record SignedDemand3 (p : Matrix) (o : Variant) (start : Forced) (Ok : (ℕ → Bool) → Type 0) (value : (ℕ → Bool) → ℤ)
    (added limit : ℕ) (v : Values) (list : List ℕ) : Type 0 where
  -- A plan shown covers each sailing exactly once at the price given.
  pub shown : (c : ℤ) (k : ℕ) → shown_in v ≡ priced c k → Shows p Ok value c (listed k list)
  -- With best, a plan is shown,
  pub best_shown : (c b : ℤ) (n k : ℕ) → v ≡ told_best c b n k → shown_in v ≡ priced c k
  -- and no choice of duties that covers each sailing exactly once is priced below it.
  pub cheapest : (c b : ℤ) (n k : ℕ) → v ≡ told_best c b n k → (X : ℕ → Bool) → Ok X → c ≤ℤ value X
  -- Best and stopped give 01's root floor, less what was added,
  pub best_bound : (c b : ℤ) (n k : ℕ) → v ≡ told_best c b n k → b ≡ lowered added (root_bound o p start)
  pub stopped_bound : (b : ℤ) (n : ℕ) (s : Shown) → v ≡ told_stopped b n s → b ≡ lowered added (root_bound o p start)
  -- and no such choice is priced below that either.
  pub bound : (X : ℕ → Bool) → Ok X → lowered added (root_bound o p start) ≤ℤ value X
  -- An answer other than stopped is none exactly when no plan exists.
  pub none_exactly : says_stopped v ≡ false → (says_none v ≡ true) ↔ ((X : ℕ → Bool) → Ok X → ⊥)
  -- The answer is stopped exactly when 01's full tree has more nodes than the allowance.
  pub stopped_exactly : (says_stopped v ≡ true) ↔ (limit < nodes (full_tree o p start))
  -- Then the node count is the allowance,
  pub stopped_count : says_stopped v ≡ true → nodes_in v ≡ limit
  -- and the plan shown is the one that this tree has kept after that many nodes; if it has kept no plan, no plan is shown.
  pub stopped_shows : says_stopped v ≡ true →
      let k : Incumbent = after (full_tree o p start) limit in
      (shown_in v ≡ shown_of added k) × (take (length (plan_numbers k)) list ≡ plan_numbers k)
  -- Otherwise the node count returned is that tree's.
  pub count : says_stopped v ≡ false → nodes_in v ≡ nodes (full_tree o p start)
  -- The full tree has at most 2^n - 1 nodes for n duties.
  pub few : 1 ≤ width p → nodes (full_tree o p start) ≤ 2 ^ width p - 1
