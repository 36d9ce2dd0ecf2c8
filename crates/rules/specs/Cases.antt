-- Worked cases that the (M) files do not show, each a small instance that one rule decides.
use Rattle.std.specs.Prelude.{◌≡◌, refl, List, [], ◌∷◌, map, ℕ, suc}
use Rattle.node.specs.Matrix.{Matrix, Instance}
use Rattle.node.specs.Node.{root}
use Rattle.rules.specs.Reduce.{reduce}
use Rattle.rules.specs.Search.{best}
use Rattle.rules.specs.Files.{file, told, solved, usual}

-- The five criteria, by the rows in the sequence that reducing uses them, numbered from 1.
abbrev order : Instance → List ℕ
order p = let m : Matrix = p.matrix in map suc (reduce m (root m p.costs)).used

-- 1: row 2 has one free column, row 1 two
abbrev few_free : Instance
few_free = file 2 (1 ∷ 1 ∷ 2 ∷ []) ((1 ∷ []) ∷ (2 ∷ []) ∷ (1 ∷ []) ∷ [])

-- 2: row 2 has one column at its least cost, row 1 two
abbrev few_least : Instance
few_least = file 2 (1 ∷ 2 ∷ 1 ∷ []) ((1 ∷ []) ∷ (2 ∷ []) ∷ (1 ∷ 2 ∷ []) ∷ [])

-- 3: row 2 has the smaller least cost
abbrev cheap_least : Instance
cheap_least = file 2 (2 ∷ 1 ∷ []) ((1 ∷ []) ∷ (2 ∷ []) ∷ [])

-- 4: the column of row 3 covers one row, that of row 1 two
abbrev short_least : Instance
short_least = file 3 (1 ∷ 1 ∷ []) ((1 ∷ 2 ∷ []) ∷ (3 ∷ []) ∷ [])

-- 4: of the columns at the least cost any counts, and not only the first; so rows 1 and 2 are equal in it
abbrev any_short : Instance
any_short = file 2 (2 ∷ 2 ∷ 2 ∷ []) ((2 ∷ []) ∷ (1 ∷ 2 ∷ []) ∷ (1 ∷ []) ∷ [])

-- 5: the rows differ in nothing but their number
abbrev low_row : Instance
low_row = file 2 (1 ∷ 1 ∷ []) ((1 ∷ []) ∷ (2 ∷ []) ∷ [])

orders :
    (order few_free ∷ order few_least ∷ order cheap_least ∷ order short_least ∷ order any_short ∷ order low_row ∷ [])
    ≡ ((2 ∷ 1 ∷ []) ∷ (2 ∷ []) ∷ (2 ∷ 1 ∷ []) ∷ (3 ∷ 1 ∷ []) ∷ (1 ∷ []) ∷ (1 ∷ 2 ∷ []) ∷ [])
unfolding told
orders = refl

-- The choice of the row: of two rows with as many columns at cost 0 and the same penalty, row 2 has fewer free columns
abbrev few_free_row : Instance
few_free_row = file 2 (1 ∷ 1 ∷ 3 ∷ 2 ∷ []) ((1 ∷ []) ∷ (2 ∷ []) ∷ (1 ∷ 2 ∷ []) ∷ (1 ∷ []) ∷ [])

-- the rows differ in nothing but their number
abbrev lowest_row : Instance
lowest_row = file 3 (1 ∷ 1 ∷ 2 ∷ []) ((1 ∷ []) ∷ (2 ∷ 3 ∷ []) ∷ (1 ∷ 2 ∷ 3 ∷ []) ∷ [])

-- a row whose columns all stand at 0 has a penalty above any number
abbrev all_zero : Instance
all_zero = file 3 (1 ∷ 1 ∷ 1 ∷ 2 ∷ []) ((1 ∷ 3 ∷ []) ∷ (2 ∷ []) ∷ (1 ∷ []) ∷ (1 ∷ 2 ∷ 3 ∷ []) ∷ [])

-- The choice of the column: the least C / s, and not s / C
abbrev least_ratio : Instance
least_ratio = file 2 (1 ∷ 2 ∷ 1 ∷ []) ((1 ∷ []) ∷ (1 ∷ 2 ∷ []) ∷ (2 ∷ []) ∷ [])

-- C counts columns at cost 0 only
abbrev zero_only : Instance
zero_only = file 2 (1 ∷ 2 ∷ 1 ∷ 2 ∷ []) ((1 ∷ []) ∷ (1 ∷ 2 ∷ []) ∷ (2 ∷ []) ∷ (2 ∷ []) ∷ [])

-- The branches: a penalty where two columns stand at 0 would lose the plan at 6
abbrev two_zeros : Instance
two_zeros = file 3 (1 ∷ 2 ∷ 1 ∷ 6 ∷ 6 ∷ 5 ∷ []) ((1 ∷ 3 ∷ []) ∷ (2 ∷ 3 ∷ []) ∷ (1 ∷ 2 ∷ []) ∷ (2 ∷ []) ∷ (1 ∷ 2 ∷ []) ∷ (3 ∷ []) ∷ [])

-- costs reduced in the first branch and kept in the second would claim 5 for the plan
abbrev step_back : Instance
step_back = file 4 (1 ∷ 3 ∷ 2 ∷ 3 ∷ []) ((1 ∷ 4 ∷ []) ∷ (1 ∷ 3 ∷ 4 ∷ []) ∷ (2 ∷ 3 ∷ 4 ∷ []) ∷ (2 ∷ []) ∷ [])

-- The incumbent: the third node is another plan at 4, which does not replace it
abbrev equal_plans : Instance
equal_plans = file 3 (3 ∷ 2 ∷ 1 ∷ 1 ∷ 2 ∷ []) ((2 ∷ []) ∷ (1 ∷ 2 ∷ []) ∷ (2 ∷ 3 ∷ []) ∷ (1 ∷ 3 ∷ []) ∷ (3 ∷ []) ∷ [])

-- the third node's bound equals the incumbent's cost, so it ends
abbrev equal_bound : Instance
equal_bound = file 3 (5 ∷ 6 ∷ 2 ∷ 3 ∷ 9 ∷ 2 ∷ []) ((3 ∷ []) ∷ (1 ∷ 2 ∷ []) ∷ (1 ∷ []) ∷ (1 ∷ 3 ∷ []) ∷ (2 ∷ 3 ∷ []) ∷ (1 ∷ []) ∷ [])

cases :
    (solved few_free_row usual
    ∷ solved lowest_row usual
    ∷ solved all_zero usual
    ∷ solved least_ratio usual
    ∷ solved zero_only usual
    ∷ solved two_zeros usual
    ∷ solved step_back usual
    ∷ solved equal_plans usual
    ∷ solved equal_bound usual
    ∷ [])
    ≡
    (best 2 2 3 (1 ∷ 2 ∷ [])
    ∷ best 2 2 2 (3 ∷ [])
    ∷ best 2 2 2 (4 ∷ [])
    ∷ best 2 2 2 (2 ∷ [])
    ∷ best 2 2 2 (2 ∷ [])
    ∷ best 6 2 4 (3 ∷ 6 ∷ [])
    ∷ best 6 3 3 (2 ∷ 4 ∷ [])
    ∷ best 4 2 3 (2 ∷ 5 ∷ [])
    ∷ best 11 9 3 (1 ∷ 2 ∷ [])
    ∷ [])
unfolding told
cases = refl
