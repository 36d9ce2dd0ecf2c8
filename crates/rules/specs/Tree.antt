-- The tree (01, The tree), for any variant of the search: the choice of row and column, the two branches, the full tree, the root's
-- lower bound and the answer.
use Rattle.std.specs.Prelude.{Bool, true, false, cond, List, [], ◌∷◌, ℕ, suc, ◌+◌, ◌*◌, length, eqb, ltb}
use Rattle.node.specs.declared.Node.{Node}
use Rattle.node.specs.Lists.{is_empty, keep, least, pick}
use Rattle.node.specs.Matrix.{Matrix, width, span, meets}
use Rattle.node.specs.Node.{free_columns, free_of, open_rows, cost_at, take, leave, taken}
use Rattle.rules.specs.declared.Forced.{Forced}
use Rattle.rules.specs.Force.{force}
use Rattle.rules.specs.Reduce.{by_order, Comparison, precedes, reduce_with}
use Rattle.rules.specs.Search.{Incumbent, nothing, reaches, Visit, ended, full, split, Walk, walk, Answer, answer_of}

-- What may differ between searches: forcing, the bound as a column is taken, reducing, and a column's present cost.
pub record Variant : Type 0 where
  pub settle : Node → Forced
  pub join : Node → ℕ → ℕ
  pub lowered : Node → Node
  pub present : Node → ℕ → ℕ

-- a search with another way to force a node
abbrev pub settled_with : (Node → Forced) → Variant → Variant
settled_with f o = record { settle = f; join = o.join; lowered = o.lowered; present = o.present }

-- the bound with column j taken: its present cost joins
abbrev pub joined : Node → ℕ → ℕ
joined s j = s.bound + cost_at s j

-- the search for the least sum of costs, with reducing by any comparison
abbrev pub sum_by : Comparison → Matrix → Variant
sum_by before p = record { settle = force joined p; join = joined; lowered = λ s. (reduce_with before p s).node; present = cost_at }

-- the search of 01, by its criteria
abbrev pub sum : Matrix → Variant
sum = sum_by precedes

-- a start: a first node, and whether it is alive
abbrev pub live : Node → Forced
live s = record { node = s; alive = true }

abbrev pub dead : Node → Forced
dead s = record { node = s; alive = false }

-- a penalty: a number, or more than any number
pub data Penalty : Type 0 where
  just : ℕ → Penalty
  most : Penalty

-- the least of the costs above 0 that a list of columns has
unfoldable pub penalty_of : (ℕ → ℕ) → List ℕ → Penalty
penalty_of c [] = most
penalty_of c (j ∷ js) = just (least c (j ∷ js))

unfoldable pub above_p : Penalty → Penalty → Bool
above_p most most = false
above_p most (just b) = true
above_p (just a) most = false
above_p (just a) (just b) = ltb b a

unfoldable pub same_p : Penalty → Penalty → Bool
same_p most most = true
same_p most (just b) = false
same_p (just a) most = false
same_p (just a) (just b) = eqb a b

unfoldable pub plus : ℕ → Penalty → ℕ
plus b (just c) = b + c
plus b most = b

-- the bound of the branch without the column, by the row's columns at cost 0: with the penalty where there is just one
unfoldable pub without_bound : ℕ → List ℕ → Penalty → ℕ
without_bound b [] q = b
without_bound b (j ∷ []) q = plus b q
without_bound b (j ∷ (k ∷ ks)) q = b

module _ (o : Variant) (p : Matrix) where
  -- the free columns of a row at cost 0, and those above
  unfoldable pub zeros : Node → ℕ → List ℕ
  zeros s i = keep (λ j. eqb (o.present s j) 0) (free_of p s i)

  unfoldable pub dearer : Node → ℕ → List ℕ
  dearer s i = keep (λ j. ltb 0 (o.present s j)) (free_of p s i)

  unfoldable pub penalty : Node → ℕ → Penalty
  penalty s i = penalty_of (o.present s) (dearer s i)

  -- row i before row k: fewest free columns at cost 0, largest penalty, fewest free columns, lowest number
  unfoldable pub row_before : Node → ℕ → ℕ → Bool
  row_before s i k =
      let a : ℕ = length (zeros s i) in
      let b : ℕ = length (zeros s k) in
      let d : Penalty = penalty s i in
      let e : Penalty = penalty s k in
      let f : ℕ = length (free_of p s i) in
      let g : ℕ = length (free_of p s k) in
      by_order (ltb a b) (eqb a b) (by_order (above_p d e) (same_p d e) (by_order (ltb f g) (eqb f g) (ltb i k)))

  -- how many free columns at cost 0 share a row with column j, itself included (01: C)
  unfoldable pub sharing : Node → ℕ → ℕ
  sharing s j = length (keep (meets p j) (keep (λ k. eqb (o.present s k) 0) (free_columns p s)))

  -- column j before column k: the least C / s, by products
  unfoldable pub column_before : Node → ℕ → ℕ → Bool
  column_before s j k = ltb (sharing s j * span p k) (sharing s k * span p j)

  -- the branches on one of a row's columns at cost 0; both start from s, and the penalty is the row's
  unfoldable pub branch_on : Node → Penalty → List ℕ → Visit Node
  branch_on s q [] = ended
  branch_on s q (j ∷ js) =
      let b : ℕ = pick (column_before s) j js in
      split (take p s b (o.join s b)) (leave s b) (without_bound s.bound (j ∷ js) q)

  -- a node that is reduced, with i ∷ is its open rows
  unfoldable pub reduced : Node → Incumbent → ℕ → List ℕ → Visit Node
  reduced s k i is =
      let r : ℕ = pick (row_before s) i is in
      cond (reaches s.bound k) ended (branch_on s (penalty s r) (zeros s r))

  -- a node that is forced and not dead, with its open rows, which reducing leaves as they are
  unfoldable pub living : Node → Incumbent → List ℕ → Visit Node
  living s k [] = full s.bound (taken p s)
  living s k (i ∷ is) = reduced (o.lowered s) k i is

  -- what a node comes to: force, reduce, choose, branch
  unfoldable pub visit : Node → Incumbent → Visit Node
  visit s k = let f : Forced = o.settle s in cond f.alive (living f.node k (open_rows p f.node)) ended

  -- from a start; a dead one is entered and ends
  unfoldable pub full_tree : Forced → Walk
  full_tree r = cond r.alive (walk visit (suc (width p)) r.node nothing) (record { entries = nothing ∷ []; end = nothing })

  -- the root's lower bound (01: root floor): after forcing and reducing, or after forcing if it is a plan
  unfoldable pub root_bound : Forced → ℕ
  root_bound r = let t : Node = (o.settle r.node).node in cond (is_empty (open_rows p t)) t.bound (o.lowered t).bound

  -- the answer within a node limit (01: allowance)
  unfoldable pub answer : Forced → ℕ → Answer
  answer r limit = answer_of (full_tree r) (root_bound r) limit
