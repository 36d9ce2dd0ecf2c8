-- The longest duty as the goal (02, P1): the largest cost among a plan's columns is to be least. A node's costs stay those of the file,
-- and its bound (01: floor) is the larger of the dearest column taken and the largest, over the open rows, of a row's least cost.
use Rattle.std.specs.Prelude.{Bool, true, cond, List, [], ◌∷◌, ℕ, ◌-◌, max, get_or}
use Rattle.node.specs.declared.Node.{Node}
use Rattle.node.specs.Lists.{on, least}
use Rattle.node.specs.Matrix.{Matrix, columns}
use Rattle.node.specs.Node.{is_taken, cost_at, free_of, open_rows}
use Rattle.rules.specs.declared.Forced.{Forced}
use Rattle.rules.specs.Force.{force}
use Rattle.rules.specs.Reduce.{least_of}
use Rattle.rules.specs.Tree.{Variant}

-- the largest value of f over a list, and 0 over the empty one
unfoldable pub largest : (ℕ → ℕ) → List ℕ → ℕ
largest f [] = 0
largest f (x ∷ xs) = max (f x) (largest f xs)

-- what a choice costs: its largest cost, and 0 for the empty choice
unfoldable pub dearest : Matrix → List ℕ → (ℕ → Bool) → ℕ
dearest p costs X = largest (λ j. on (X j) (get_or costs j 0)) (columns p)

-- the bound with column j taken: the larger of it and the column's cost
abbrev pub topped : Node → ℕ → ℕ
topped s j = max s.bound (cost_at s j)

-- the bound raised to the largest least cost of an open row; marks and costs are as they were
unfoldable pub raised : Matrix → Node → Node
raised p s = record {
  cost = s.cost;
  column = s.column;
  row = s.row;
  bound = max s.bound (largest (least_of p s) (open_rows p s));
}

-- a column's present cost (01: reduced price): its cost less the bound, or 0 where that is negative
abbrev pub excess : Node → ℕ → ℕ
excess s j = cost_at s j - s.bound

-- the search for the least largest cost
abbrev pub longest : Matrix → Variant
longest p = record { settle = force topped p; join = topped; lowered = raised p; present = excess }

-- P1's floor of a node, from the costs in the file: the larger of the dearest column taken and the largest, over the open rows, of the
-- least cost of a free column
unfoldable pub floor : Matrix → List ℕ → Node → ℕ
floor p costs s = max (dearest p costs (is_taken s)) (largest (λ i. least (λ j. get_or costs j 0) (free_of p s i)) (open_rows p s))

-- the same search with that floor worked out anew, at each node that lives on after it is forced, in whichever way
abbrev pub with_bound : Node → ℕ → Node
with_bound s b = record { cost = s.cost; column = s.column; row = s.row; bound = b }

unfoldable pub floored : Matrix → List ℕ → Forced → Forced
floored p costs f = cond f.alive (record { node = with_bound f.node (floor p costs f.node); alive = true }) f

abbrev pub by_floor : Matrix → List ℕ → (Node → Forced) → Variant
by_floor p costs settle = record { settle = λ s. floored p costs (settle s); join = topped; lowered = λ s. s; present = excess }
