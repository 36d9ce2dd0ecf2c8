-- Pairs of columns (02, P8), in any search: the first may be in a plan only if the second is. After forcing, and before a node counts as a
-- plan, the pairs are gone through in list sequence; if anything changed, forcing and pairs are done again.
use Rattle.std.specs.Prelude.{◌≡◌, Bool, true, false, not, cond, ◌&&◌, ◌||◌, List, [], ◌∷◌, ℕ, zero, suc, ◌-◌}
use Rattle.node.specs.declared.Node.{Node}
use Rattle.node.specs.Matrix.{Matrix, width}
use Rattle.node.specs.Node.{is_free, is_taken, take, leave}
use Rattle.rules.specs.declared.Forced.{Forced}
use Rattle.rules.specs.declared.PairAsked.{PairAsked}
use Rattle.rules.specs.declared.PairAsked.TheVariants.{TakeSecond, Dead, LeaveFirst, Nothing}
use Rattle.rules.specs.Tree.{Variant, settled_with, live, dead}

-- two columns (02: duties), of which the first needs the second
pub record Pair : Type 0 where
  pub first : ℕ
  pub second : ℕ

abbrev pub pair : ℕ → ℕ → Pair
pair a b = record { first = a; second = b }

-- the pairs of a lent list: first and second column in turn, numbered from 1
unfoldable pub pairs_of : List ℕ → List Pair
pairs_of [] = []
pairs_of (a ∷ []) = []
pairs_of (a ∷ (b ∷ ns)) = pair (a - 1) (b - 1) ∷ pairs_of ns

-- neither free nor taken
abbrev pub is_out : Node → ℕ → Bool
is_out s j = not (is_free s j || is_taken s j)

-- what a pair asks of a node
unfoldable pub pair_asked : Node → Pair → PairAsked
pair_asked s q =
    cond (is_taken s q.first && is_free s q.second) TakeSecond
    (cond (is_taken s q.first && is_out s q.second) Dead
    (cond (is_free s q.first && is_out s q.second) LeaveFirst
    Nothing))

-- a node when the pairs have been gone through, whether it is alive, and whether anything changed
pub record Passed : Type 0 where
  pub node : Node
  pub alive : Bool
  pub changed : Bool

-- where forcing leaves a node alive, w on it
abbrev pub if_alive : Forced → (Node → Forced) → Forced
if_alive r w = cond r.alive (w r.node) (dead r.node)

-- where the pairs leave a node alive, w on it if anything changed
abbrev pub if_changed : Passed → (Node → Forced) → Forced
if_changed r w = cond r.alive (cond r.changed (w r.node) (live r.node)) (dead r.node)

-- `join s j` is the bound of s with column j taken
module _ (join : Node → ℕ → ℕ) (p : Matrix) where
  -- one pair, and w after it; c says whether anything changed before
  unfoldable pub pass_on : PairAsked → Pair → Node → Bool → (Node → Bool → Passed) → Passed
  pass_on TakeSecond q s c w = w (take p s q.second (join s q.second)) true
  pass_on Dead q s c w = record { node = s; alive = false; changed = c }
  pass_on LeaveFirst q s c w = w (leave s q.first) true
  pass_on Nothing q s c w = w s c

  -- the pairs in list sequence
  unfoldable pub pass : List Pair → Node → Bool → Passed
  pass [] s c = record { node = s; alive = true; changed = c }
  pass (q ∷ qs) s c = pass_on (pair_asked s q) q s c (λ t d. pass qs t d)

  -- forcing and pairs, until nothing changes; each repetition leaves fewer free columns, so there are at most as many as columns
  unfoldable pub paired_by : (Node → Forced) → List Pair → ℕ → Node → Forced
  paired_by settle qs zero s = dead s
  paired_by settle qs (suc f) s = if_alive (settle s) (λ t. if_changed (pass qs t false) (λ u. paired_by settle qs f u))

  unfoldable pub paired : (Node → Forced) → List Pair → Node → Forced
  paired settle qs s = paired_by settle qs (suc (width p)) s

-- a search with pairs
abbrev pub with_pairs : Matrix → List Pair → Variant → Variant
with_pairs p qs o = settled_with (paired o.join p o.settle qs) o

-- each pair of a list
abbrev pub Each : (Pair → Type 0) → List Pair → Type 0
Each P [] = Unit {0}
Each P (q ∷ qs) = P q × Each P qs

-- a choice obeys the pairs: it has the first of each only if it has the second
abbrev pub Obeys : List Pair → (ℕ → Bool) → Type 0
Obeys qs X = Each (λ q. X q.first ≡ true → X q.second ≡ true) qs

-- a choice is allowed and obeys the pairs
pub record Paired (Ok : (ℕ → Bool) → Type 0) (qs : List Pair) (X : ℕ → Bool) : Type 0 where
  pub ok : Ok X
  pub obeys : Obeys qs X
