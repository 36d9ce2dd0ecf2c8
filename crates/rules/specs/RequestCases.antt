-- Worked cases of what a desk asks besides (02, P2 and P9), with lists of columns numbered from 1: example 4, whose plans are 3 6 9 at 42, 2 5 10
-- at 46 and 5 7 8 at 49, and small instances that one rule decides.
use Rattle.std.specs.Prelude.{◌≡◌, refl, List, [], ◌∷◌, ℕ}
use Rattle.node.specs.Matrix.{Matrix, Instance}
use Rattle.node.specs.Node.{root}
use Rattle.rules.specs.Search.{plan, Answer, best, none, stopped}
use Rattle.rules.specs.Tree.{Variant, sum}
use Rattle.rules.specs.Files.{file, told, usual, example4}
use Rattle.rules.specs.Longest.{largest, raised, longest}
use Rattle.rules.specs.Agreed.{without, with_all, agreed_start, struck}
use Rattle.rules.specs.Pairs.{pairs_of, pass, paired_by, paired}
use Rattle.rules.specs.Requests.{Requests, asking, begun, requested}

abbrev pub with : (Matrix → Variant) → Instance → ℕ → Requests → Answer
with search p limit q =
    let m : Matrix = p.matrix in
    told (requested m q (search m)) m (begun (search m) m q (root m p.costs)) limit

abbrev solved_with : Instance → ℕ → List ℕ → List ℕ → Answer
solved_with p limit agreed absent = with sum p limit (asking agreed absent [])

abbrev found_with : Instance → ℕ → List ℕ → List ℕ → Answer
found_with p limit agreed absent = with longest p limit (asking agreed absent [])

-- column 1 is taken before forcing, which would take it too; were it taken after, it would not be free then
abbrev one_column : Instance
one_column = file 1 (5 ∷ []) ((1 ∷ []) ∷ [])

-- the cost of agreed column 1 counts in the bound, and for the longest duty gives it; absent column 3 does not
abbrev two_each : Instance
two_each = file 2 (9 ∷ 1 ∷ 2 ∷ 3 ∷ []) ((1 ∷ []) ∷ (1 ∷ []) ∷ (2 ∷ []) ∷ (2 ∷ []) ∷ [])

-- 01's file of three columns and no plan, which 3 nodes find, and a fourth column that is a plan alone
abbrev pub last_plan : Instance
last_plan = file 3 (1 ∷ 1 ∷ 1 ∷ 9 ∷ []) ((1 ∷ 2 ∷ []) ∷ (2 ∷ 3 ∷ []) ∷ (1 ∷ 3 ∷ []) ∷ (1 ∷ 2 ∷ 3 ∷ []) ∷ [])

request_cases :
    -- an agreed column that costs more than best, and the same within two nodes
    (solved_with example4 usual (5 ∷ []) []
    ∷ found_with example4 usual (5 ∷ []) []
    ∷ solved_with example4 2 (5 ∷ []) []
    -- an absent column that best had
    ∷ solved_with example4 usual [] (6 ∷ [])
    ∷ found_with example4 usual [] (6 ∷ [])
    -- two agreed columns that share row 1
    ∷ solved_with example4 usual (3 ∷ 5 ∷ []) []
    ∷ found_with example4 usual (3 ∷ 5 ∷ []) []
    -- a column in both lists, which is absent
    ∷ solved_with example4 usual (6 ∷ []) (6 ∷ [])
    ∷ found_with example4 usual (6 ∷ []) (6 ∷ [])
    -- the other agreed columns stay in their list, the next ones before and after too
    ∷ solved_with example4 usual (5 ∷ 6 ∷ []) (6 ∷ [])
    ∷ solved_with two_each usual (2 ∷ 3 ∷ []) (2 ∷ [])
    ∷ found_with two_each usual (1 ∷ 4 ∷ []) (1 ∷ [])
    -- a column in both lists, and no plan either way: for another agreed column, and for none
    ∷ solved_with example4 usual (3 ∷ 6 ∷ []) (6 ∷ [])
    ∷ solved_with last_plan usual (4 ∷ []) (4 ∷ [])
    -- lists that overlap wholly
    ∷ solved_with example4 usual (5 ∷ 7 ∷ 8 ∷ []) (5 ∷ 7 ∷ 8 ∷ [])
    ∷ found_with example4 usual (5 ∷ 7 ∷ 8 ∷ []) (5 ∷ 7 ∷ 8 ∷ [])
    ∷ solved_with one_column usual (1 ∷ []) (1 ∷ [])
    -- agreed columns that leave row 1 without a free one
    ∷ solved_with example4 usual (6 ∷ 10 ∷ []) []
    ∷ found_with example4 usual (6 ∷ 10 ∷ []) []
    -- a root that is a plan after the agreed ones, the cheapest and the dearest
    ∷ solved_with example4 1 (3 ∷ 6 ∷ 9 ∷ []) []
    ∷ solved_with example4 1 (5 ∷ 7 ∷ 8 ∷ []) []
    ∷ found_with example4 1 (5 ∷ 7 ∷ 8 ∷ []) []
    -- the small instances
    ∷ solved_with one_column usual (1 ∷ []) []
    ∷ solved_with one_column usual [] (1 ∷ [])
    ∷ solved_with two_each usual (1 ∷ []) []
    ∷ found_with two_each usual (1 ∷ []) []
    ∷ found_with two_each usual (2 ∷ []) (3 ∷ [])
    ∷ [])
    ≡
    (best 46 41 4 (2 ∷ 5 ∷ 10 ∷ [])
    ∷ best 22 18 4 (2 ∷ 5 ∷ 10 ∷ [])
    ∷ stopped (plan 49 (5 ∷ 7 ∷ 8 ∷ [])) 41 2
    ∷ best 46 39 4 (2 ∷ 5 ∷ 10 ∷ [])
    ∷ best 22 18 5 (2 ∷ 5 ∷ 10 ∷ [])
    ∷ none 1
    ∷ none 1
    ∷ best 46 39 4 (2 ∷ 5 ∷ 10 ∷ [])
    ∷ best 22 18 5 (2 ∷ 5 ∷ 10 ∷ [])
    ∷ best 46 41 4 (2 ∷ 5 ∷ 10 ∷ [])
    ∷ best 11 11 1 (1 ∷ 3 ∷ [])
    ∷ best 3 3 1 (2 ∷ 4 ∷ [])
    ∷ none 1
    ∷ none 3
    ∷ best 42 42 1 (3 ∷ 6 ∷ 9 ∷ [])
    ∷ best 14 14 1 (3 ∷ 6 ∷ 9 ∷ [])
    ∷ none 1
    ∷ none 1
    ∷ none 1
    ∷ best 42 42 1 (3 ∷ 6 ∷ 9 ∷ [])
    ∷ best 49 49 1 (5 ∷ 7 ∷ 8 ∷ [])
    ∷ best 24 24 1 (5 ∷ 7 ∷ 8 ∷ [])
    ∷ best 5 5 1 (1 ∷ [])
    ∷ none 1
    ∷ best 11 11 2 (1 ∷ 3 ∷ [])
    ∷ best 9 9 2 (1 ∷ 3 ∷ [])
    ∷ best 3 3 1 (2 ∷ 4 ∷ [])
    ∷ [])
unfolding told largest raised without with_all agreed_start struck begun pairs_of pass paired_by paired
request_cases = refl
