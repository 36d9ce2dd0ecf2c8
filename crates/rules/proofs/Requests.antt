-- With what a desk asks besides, for both goals: the start is a node that the code's steps can work with, and demand 3 holds of the
-- choices that count.
use mathlib.Core.Path.{◌≡◌, refl}
use mathlib.Core.Bool.{Bool, true}
use mathlib.Core.List.{List}
use Prim.Native.Nat.{ℕ, ◌-◌, ◌≤◌, ◌<◌}
use Rattle.node.specs.declared.Node.{Node}
use Rattle.node.specs.Lists.{member}
use Rattle.node.specs.Matrix.{Matrix, covers, IsPlan}
use Rattle.node.specs.Node.{root}
use Rattle.node.specs.Stored.{matrix_in, FitsNode}
use Rattle.rules.specs.declared.Forced.{Forced}
use Rattle.rules.specs.declared.Goal.{Goal}
use Rattle.rules.specs.declared.Goal.TheVariants.{Sum, Longest}
use Rattle.rules.specs.Reduce.{precedes}
use Rattle.rules.specs.Search.{none}
use Rattle.rules.specs.Tree.{Variant, live, answer}
use Rattle.rules.specs.Demand.{Demand3}
use Rattle.rules.specs.Longest.{dearest, longest, by_floor}
use Rattle.rules.specs.Goals.{search_for, value_for}
use Rattle.rules.specs.Pairs.{Pair, pairs_of, Paired}
use Rattle.rules.specs.Requests.{Requests, columns_of, to_hold, begun, unstruck_start, requested, Granted}
use Rattle.rules.proofs.Plans.{root-free}
use Rattle.rules.proofs.Variants.{Stepping, Laws}
use Rattle.rules.proofs.Demand.{demand_3}
use Rattle.rules.proofs.Agreed.{Keeps, Inside, Distinct, start_keeps_good, both_none, shared-none, agreed_laws}
use Rattle.rules.proofs.Struck.{struck-inside, struck_distinct, member-columns}
use Rattle.rules.proofs.Pairs.{PairsInside, paired_steps, paired_laws}
use Rattle.rules.proofs.Costs.{Good}
use Rattle.rules.proofs.Sum.{sum_laws}
use Rattle.rules.proofs.Longest.{High, longest_laws, floor-answer}
use Rattle.rules.proofs.Goals.{WorkableFor, goal_steps}

-- what is asked of the lists: columns of the matrix, and no agreed column twice
pub record Askable (p : Matrix) (q : Requests) : Type 0 where
  pub agreed : Inside p (columns_of q.agreed)
  pub absent : Inside p (columns_of q.absent)
  pub distinct : Distinct (columns_of q.agreed)
  pub pairs : PairsInside p (pairs_of q.pairs)

-- so it is of the columns that a plan must hold
module _ (p : Matrix) (q : Requests) (a : Askable p q) where
  hold_inside : Inside p (to_hold q)
  hold_inside = struck-inside q.agreed q.absent p a.agreed

  hold_distinct : Distinct (to_hold q)
  hold_distinct = struck_distinct q.agreed q.absent a.distinct

-- what holds of every node, and the laws of the search from the root
goal_laws : (g : Goal) (p : Matrix) → FitsNode p → (cs : List ℕ)
    → (Good : Node → Type 0) × Laws p (search_for g p) (live (root p cs)) (IsPlan p) (value_for g p cs) Good
unfolding search_for value_for
goal_laws Sum p F cs = (Good p cs, sum_laws precedes p F cs)
goal_laws Longest p F cs = (High p cs, longest_laws p F cs)

-- any search that keeps its laws, with what a desk asks
module _ (p : Matrix) (F : FitsNode p) (cs : List ℕ) (q : Requests) (a : Askable p q) (o : Variant) (value : (ℕ → Bool) → ℕ)
    (Good : Node → Type 0) (L : Laws p o (live (root p cs)) (IsPlan p) value Good) where
  abbrev qs : List Pair
  qs = pairs_of q.pairs

  paired-root : Laws p (requested p q o) (live (root p cs)) (Paired (IsPlan p) qs) value Good
  paired-root = paired_laws p F o (live (root p cs)) (IsPlan p) value Good L qs a.pairs

  pub requested_laws : Laws p (requested p q o) (begun o p q (root p cs)) (Granted p q) value (Keeps Good (to_hold q) (columns_of q.absent))
  unfolding begun
  requested_laws =
      agreed_laws p F (requested p q o) (Paired (IsPlan p) qs) value Good (root p cs) paired-root (to_hold q) (columns_of q.absent)
      (hold_inside p q a) a.absent (hold_distinct p q a) (root-free p F cs)

  pub requested_demand_3 : (limit : ℕ) →
      let start : Forced = begun o p q (root p cs) in
      Demand3 p (requested p q o) start (Granted p q) value limit (answer (requested p q o) p start limit)
  requested_demand_3 = demand_3 p F (requested p q o) (Granted p q) value _ (begun o p q (root p cs)) requested_laws

pub goal_demand_3 : (g : Goal) (p : Matrix) → FitsNode p → (cs : List ℕ) (q : Requests) → Askable p q → (limit : ℕ)
    → let start : Forced = begun (search_for g p) p q (root p cs) in
    Demand3 p (requested p q (search_for g p)) start (Granted p q) (value_for g p cs) limit (answer (requested p q (search_for g p)) p start limit)
goal_demand_3 g p F cs q a =
    let L = goal_laws g p F cs in
    requested_demand_3 p F cs q a (search_for g p) (value_for g p cs) L.0 L.1

pub begun-workable : (g : Goal) (l cs : List ℕ) (q : Requests) → Askable (matrix_in l) q → WorkableFor g l (root (matrix_in l) cs)
    → WorkableFor g l (begun (search_for g (matrix_in l)) (matrix_in l) q (root (matrix_in l) cs)).node
unfolding begun
begun-workable g l cs q a w =
    let p : Matrix = matrix_in l in
    start_keeps_good p w.kept.small.fits (search_for g p) (IsPlan p) (WorkableFor g l) (goal_steps g l w.kept) (to_hold q)
    (columns_of q.absent) (hold_inside p q a) a.absent (hold_distinct p q a) (root p cs) w (root-free p w.kept.small.fits cs)

module _ (p : Matrix) (F : FitsNode p) (cs : List ℕ) (q : Requests) (a : Askable p q) (limit : ℕ) (one : 1 ≤ limit) where
  -- the search for a goal, and the steps that it makes from the root
  abbrev o : Goal → Variant
  o g = requested p q (search_for g p)

  goal_stepping : (g : Goal) → (Good : Node → Type 0) × Stepping p (o g) (Paired (IsPlan p) (pairs_of q.pairs)) Good × Good (root p cs)
  goal_stepping g =
      let L = goal_laws g p F cs in
      (L.0, paired_steps p F (search_for g p) (IsPlan p) L.0 L.1.steps (pairs_of q.pairs) a.pairs, L.1.start_good refl)

  -- a number in both lists: before P9 no plan, and one node
  pub goal_both_none : (g : Goal) (j : ℕ) → member j q.agreed ≡ true → member j q.absent ≡ true
      → answer (requested p q (search_for g p)) p (unstruck_start (search_for g p) p q (root p cs)) limit ≡ none 1
  unfolding unstruck_start
  goal_both_none g j m n =
      let S = goal_stepping g in
      both_none p F (o g) _ S.0 S.1 _ _ a.agreed a.absent (root p cs) S.2 limit one (j - 1) (member-columns j _ m)
      (member-columns j _ n)

  -- two columns to hold that share a row: no plan, and one node
  pub goal_shared_none : (g : Goal) (j k : ℕ) → member j (to_hold q) ≡ true → member k (to_hold q) ≡ true → (k ≡ j → ⊥)
      → (i : ℕ) → i < p.rows → covers p i j ≡ true → covers p i k ≡ true
      → answer (requested p q (search_for g p)) p (begun (search_for g p) p q (root p cs)) limit ≡ none 1
  unfolding begun
  goal_shared_none g =
      let S = goal_stepping g in
      shared-none p F (o g) _ S.0 S.1 _ _ (hold_inside p q a) a.absent (root p cs) S.2 limit one

  -- for the longest duty: the search that works P1's floor out anew, at each node when it is forced and the pairs ask nothing, answers the same
  pub requested-floor :
      let start : Forced = begun (longest p) p q (root p cs) in
      let settle : Node → Forced = (requested p q (longest p)).settle in
      answer (by_floor p cs settle) p start limit ≡ answer (requested p q (longest p)) p start limit
  requested-floor =
      floor-answer p F cs (requested p q (longest p)).settle (begun (longest p) p q (root p cs)) (Granted p q) _
      (requested_laws p F cs q a (longest p) (dearest p cs) (High p cs) (longest_laws p F cs)) (λ t k. k.good) limit one
