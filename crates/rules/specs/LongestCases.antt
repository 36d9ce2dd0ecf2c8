-- Worked cases of the longest duty as the goal (02, P1): the paper's example 7, which has the matrix and the costs of example 1, and small
-- instances that one rule decides.
use Rattle.std.specs.Prelude.{◌≡◌, refl, [], ◌∷◌, ℕ}
use Rattle.node.specs.Matrix.{Matrix, Instance}
use Rattle.node.specs.Node.{root}
use Rattle.rules.specs.Search.{nothing, plan, Answer, best, none, stopped}
use Rattle.rules.specs.Tree.{live}
use Rattle.rules.specs.Files.{file, told, usual, pairs, example1}
use Rattle.rules.specs.Longest.{largest, raised, longest}

abbrev found : Instance → ℕ → Answer
found p limit = let m : Matrix = p.matrix in told (longest m) m (live (root m p.costs)) limit

-- The bound: an open row gives it, 5; the costs 2 and 3 of row 1 are below it, so row 1 has two columns at cost 0, and row 2 is chosen
abbrev open_row : Instance
open_row = file 2 (2 ∷ 3 ∷ 5 ∷ 7 ∷ []) ((1 ∷ []) ∷ (1 ∷ []) ∷ (2 ∷ []) ∷ (2 ∷ []) ∷ [])

-- a taken column gives it, 9
abbrev taken_column : Instance
taken_column = file 2 (9 ∷ 2 ∷ 3 ∷ []) ((1 ∷ []) ∷ (2 ∷ []) ∷ (2 ∷ []) ∷ [])

-- in the second node column 4 is forced at 7, and the third, by columns 2 and 5, is a plan at 5
abbrev forced_dear : Instance
forced_dear = file 3 (1 ∷ 4 ∷ 4 ∷ 7 ∷ 5 ∷ []) ((1 ∷ 3 ∷ []) ∷ (1 ∷ 2 ∷ []) ∷ (2 ∷ 3 ∷ []) ∷ (2 ∷ []) ∷ (3 ∷ []) ∷ [])

-- column 1 is forced at the root and gives the root's bound, 6; the least largest cost is 8
abbrev root_forced : Instance
root_forced = file 4 (6 ∷ 1 ∷ 4 ∷ 4 ∷ 9 ∷ 8 ∷ [])
    ((4 ∷ []) ∷ (1 ∷ 3 ∷ []) ∷ (1 ∷ 2 ∷ []) ∷ (2 ∷ 3 ∷ []) ∷ (2 ∷ []) ∷ (3 ∷ []) ∷ [])

-- Reduced costs: that of column 2 would be 1 - 2; were it not 0, row 1 would be chosen with a penalty, and the plan at 2 lost
abbrev held_at_zero : Instance
held_at_zero = file 3 (2 ∷ 1 ∷ 2 ∷ 3 ∷ []) ((1 ∷ 2 ∷ []) ∷ (1 ∷ []) ∷ (2 ∷ 3 ∷ []) ∷ (3 ∷ []) ∷ [])

-- The incumbent: the third node's bound is raised to 7, the incumbent's cost, so it ends
abbrev equal_floor : Instance
equal_floor = file 3 (1 ∷ 4 ∷ 4 ∷ 7 ∷ 7 ∷ 8 ∷ [])
    ((1 ∷ 3 ∷ []) ∷ (1 ∷ 2 ∷ []) ∷ (2 ∷ 3 ∷ []) ∷ (2 ∷ []) ∷ (3 ∷ []) ∷ (3 ∷ []) ∷ [])

-- The penalty: the branch without column 1 has 4 + 2, not below the plan's 5, and is not entered
abbrev penalised : Instance
penalised = file 3 (1 ∷ 6 ∷ 4 ∷ 5 ∷ []) ((1 ∷ 3 ∷ []) ∷ (1 ∷ 2 ∷ []) ∷ (2 ∷ 3 ∷ []) ∷ (2 ∷ []) ∷ [])

longest_cases :
    (found example1 usual
    ∷ found open_row usual
    ∷ found taken_column usual
    ∷ found forced_dear usual
    ∷ found root_forced usual
    ∷ found held_at_zero usual
    ∷ found equal_floor usual
    ∷ found penalised usual
    ∷ found pairs usual
    ∷ found forced_dear 2
    ∷ found forced_dear 1
    ∷ [])
    ≡
    (best 7 6 3 (2 ∷ 3 ∷ 7 ∷ [])
    ∷ best 5 5 3 (1 ∷ 3 ∷ [])
    ∷ best 9 9 2 (1 ∷ 2 ∷ [])
    ∷ best 5 4 3 (2 ∷ 5 ∷ [])
    ∷ best 8 6 3 (1 ∷ 3 ∷ 6 ∷ [])
    ∷ best 2 2 2 (2 ∷ 3 ∷ [])
    ∷ best 7 4 3 (1 ∷ 4 ∷ [])
    ∷ best 5 4 2 (1 ∷ 4 ∷ [])
    ∷ none 3
    ∷ stopped (plan 7 (1 ∷ 4 ∷ [])) 4 2
    ∷ stopped nothing 4 1
    ∷ [])
unfolding told largest raised
longest_cases = refl
