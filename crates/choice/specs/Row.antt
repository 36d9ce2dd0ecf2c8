-- The choice of the row (01, The tree: choose an open sailing).
use Rattle.std.specs.Prelude.{Bool, cond, List, ℕ, zero, suc, ◌+◌, min, length, get_or, eqb, ltb}
use Rattle.node.specs.declared.Node.{Node}
use Rattle.node.specs.Lists.{keep, least}
use Rattle.node.specs.Passes.{best_in}
use Rattle.node.specs.Matrix.{Matrix}
use Rattle.node.specs.Node.{free_of, open_rows}
use Rattle.rules.specs.Reduce.{by_order}
use Rattle.rules.specs.Tree.{sum, Penalty, just, most, above_p, same_p, zeros, penalty, row_before}
use Rattle.choice.specs.declared.BranchRow.{BranchRow}

-- a penalty as a number: no penalty is the number 0, so 0 stands for the one above any number
unfoldable pub amount : Penalty → ℕ
amount (just c) = c
amount most = 0

unfoldable pub penalty_at : ℕ → Penalty
penalty_at zero = most
penalty_at (suc c) = just (suc c)

-- what the choice looks at in row i
unfoldable pub branch_row : Matrix → Node → ℕ → BranchRow
branch_row p s i = record {
  zeros = length (zeros (sum p) p s i);
  penalty = amount (penalty (sum p) p s i);
  free = length (free_of p s i);
  row = i;
}

-- 01's order: fewest free columns at cost 0, largest penalty, fewest free columns, lowest number
unfoldable pub precedes : BranchRow → BranchRow → Bool
precedes a b =
    by_order (ltb a.zeros b.zeros) (eqb a.zeros b.zeros)
    (by_order (above_p (penalty_at a.penalty) (penalty_at b.penalty)) (same_p (penalty_at a.penalty) (penalty_at b.penalty))
    (by_order (ltb a.free b.free) (eqb a.free b.free)
    (ltb a.row b.row)))

-- every row comes before this one, which stands where no row is open
abbrev pub no_row : BranchRow
no_row = record { zeros = 257; penalty = 0; free = 0; row = 0 }

-- the row to branch on
abbrev pub best_row : Matrix → Node → BranchRow
best_row p s = best_in (branch_row p s) (row_before (sum p) p s) no_row (open_rows p s)

-- the bound b, with the penalty of row a where just one of its columns is at cost 0
unfoldable pub bound_without : ℕ → BranchRow → ℕ
bound_without b a = cond (eqb a.zeros 1) (b + a.penalty) b

-- what the choice looks at in row i, with js its free columns and f their costs
unfoldable pub tally : (ℕ → ℕ) → List ℕ → ℕ → BranchRow
tally f js i = record {
  zeros = length (keep (λ j. eqb (f j) 0) js);
  penalty = least f (keep (λ j. ltb 0 (f j)) js);
  free = length js;
  row = i;
}

-- a penalty's number with one more cost above 0
unfoldable pub lower_penalty : ℕ → ℕ → ℕ
lower_penalty q c = cond (eqb q 0) c (min q c)

-- with one more free column, of cost c
unfoldable pub joined : BranchRow → ℕ → BranchRow
joined a c =
    cond (eqb c 0)
    (record { zeros = a.zeros + 1; penalty = a.penalty; free = a.free + 1; row = a.row })
    (record { zeros = a.zeros; penalty = lower_penalty a.penalty c; free = a.free + 1; row = a.row })

-- of row i, whose columns are given
abbrev pub tally_in : List ℕ → List ℕ → List ℕ → ℕ → BranchRow
tally_in cost column row i = tally (λ j. get_or cost j 0) (keep (λ j. eqb (get_or column j 0) 1) row) i
