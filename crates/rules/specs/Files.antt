-- The (M) files of 01 (Files to try), as one table: each file with its node limit, and the answer.
use Rattle.std.specs.Prelude.{◌≡◌, refl, List, [], ◌∷◌, map, ℕ, suc}
use Rattle.node.specs.Lists.{keep, from, member, least_from, least, pick, is_empty, first}
use Rattle.node.specs.Matrix.{Matrix, Instance, covers, meets}
use Rattle.node.specs.Node.{free_columns, free_of, open_rows, taken, root, take, leave}
use Rattle.rules.specs.declared.Forced.{Forced}
use Rattle.rules.specs.Force.{rows_with, asked_by, asked, force_on, force_by, force}
use Rattle.rules.specs.Reduce.{least_of, candidates, candidate, by_order, in_turn, Comparison, precedes, formerly_precedes, lower}
use Rattle.rules.specs.Reduce.{row_first, reduce_on, reduce_by, reduce_with}
use Rattle.rules.specs.Search.{nothing, plan, reaches, improve, second, enter, walk, after, Answer, best, none, stopped}
use Rattle.rules.specs.Search.{finished, answer_of}
use Rattle.rules.specs.Tree.{Variant, sum_by, live, penalty_of, plus, above_p, same_p, without_bound, zeros, dearer, penalty, row_before, sharing}
use Rattle.rules.specs.Tree.{column_before, branch_on, reduced, living, visit, full_tree, root_bound, answer}

-- m rows, and the cost and the body of each column
abbrev pub file : ℕ → List ℕ → List (List ℕ) → Instance
file m costs bodies = record { matrix = record { rows = m; bodies = bodies }; costs = costs }

-- m 1, duty {1} at 5
abbrev once : Instance
once = file 1 (5 ∷ []) ((1 ∷ []) ∷ [])

-- the same duty twice
abbrev twice : Instance
twice = file 1 (5 ∷ 5 ∷ []) ((1 ∷ []) ∷ (1 ∷ []) ∷ [])

-- m 2, duty {1} at 3
abbrev bare : Instance
bare = file 2 (3 ∷ []) ((1 ∷ []) ∷ [])

-- m 2, {1,2} at 9, {1} at 4, {2} at 4
abbrev parts : Instance
parts = file 2 (9 ∷ 4 ∷ 4 ∷ []) ((1 ∷ 2 ∷ []) ∷ (1 ∷ []) ∷ (2 ∷ []) ∷ [])

-- m 3, {1,2}, {2,3}, {1,3} at 1
abbrev pub pairs : Instance
pairs = file 3 (1 ∷ 1 ∷ 1 ∷ []) ((1 ∷ 2 ∷ []) ∷ (2 ∷ 3 ∷ []) ∷ (1 ∷ 3 ∷ []) ∷ [])

abbrev pub example1 : Instance
example1 = file 5 (3 ∷ 7 ∷ 5 ∷ 8 ∷ 10 ∷ 4 ∷ 6 ∷ 9 ∷ [])
    ((1 ∷ []) ∷ (1 ∷ 5 ∷ []) ∷ (2 ∷ []) ∷ (2 ∷ 5 ∷ []) ∷ (2 ∷ 3 ∷ []) ∷ (3 ∷ 5 ∷ []) ∷ (3 ∷ 4 ∷ []) ∷ (4 ∷ []) ∷ [])

abbrev pub example4 : Instance
example4 = file 6 (18 ∷ 22 ∷ 14 ∷ 36 ∷ 17 ∷ 14 ∷ 8 ∷ 24 ∷ 14 ∷ 7 ∷ [])
    ((5 ∷ 6 ∷ []) ∷ (3 ∷ 5 ∷ 6 ∷ []) ∷ (1 ∷ 4 ∷ []) ∷ (2 ∷ 3 ∷ 4 ∷ 6 ∷ []) ∷ (1 ∷ 2 ∷ []) ∷ (2 ∷ 6 ∷ []) ∷ (5 ∷ [])
    ∷ (3 ∷ 4 ∷ 6 ∷ []) ∷ (3 ∷ 5 ∷ []) ∷ (4 ∷ []) ∷ [])

-- columns numbered from 1, as 01 does
unfoldable pub numbered : Answer → Answer
numbered (best c b n js) = best c b n (map suc js)
numbered (none n) = none n
numbered (stopped nothing b n) = stopped nothing b n
numbered (stopped (plan c js) b n) = stopped (plan c (map suc js)) b n

-- The answer of a search, numbered so. A table that unfolds this unfolds all that an answer of the sum search is computed with.
unfoldable pub told : Variant → Matrix → Forced → ℕ → Answer
unfolding numbered keep from member least_from least pick is_empty first covers meets free_columns free_of open_rows taken root take
    leave least_of candidates candidate by_order in_turn precedes formerly_precedes row_first lower reduce_on reduce_by reduce_with
    rows_with asked_by asked force_on force_by force reaches improve second enter walk finished after answer_of zeros dearer penalty_of
    penalty above_p same_p row_before sharing column_before plus without_bound branch_on reduced living visit full_tree root_bound answer
told o m start limit = numbered (answer o m start limit)

abbrev pub solved_by : Comparison → Instance → ℕ → Answer
solved_by before p limit = let m : Matrix = p.matrix in told (sum_by before m) m (live (root m p.costs)) limit

abbrev pub solved : Instance → ℕ → Answer
solved = solved_by precedes

-- the limit where 01 names none
abbrev pub usual : ℕ
usual = 1000000

-- best: cost, bound, nodes, columns; none: nodes; stopped: the plan kept, bound, nodes
files :
    (solved once usual
    ∷ solved twice usual
    ∷ solved bare usual
    ∷ solved parts usual
    ∷ solved pairs usual
    ∷ solved pairs 2
    ∷ solved example1 usual
    ∷ solved example1 2
    ∷ solved example4 6
    ∷ solved example4 5
    ∷ solved example4 3
    ∷ solved example4 1
    ∷ [])
    ≡
    (best 5 5 1 (1 ∷ [])
    ∷ best 5 5 2 (1 ∷ [])
    ∷ none 1
    ∷ best 8 8 2 (2 ∷ 3 ∷ [])
    ∷ none 3
    ∷ stopped nothing 1 2
    ∷ best 17 17 3 (1 ∷ 4 ∷ 7 ∷ [])
    ∷ stopped nothing 17 2
    ∷ best 42 39 2 (3 ∷ 6 ∷ 9 ∷ [])
    ∷ best 42 39 2 (3 ∷ 6 ∷ 9 ∷ [])
    ∷ best 42 39 2 (3 ∷ 6 ∷ 9 ∷ [])
    ∷ stopped nothing 39 1
    ∷ [])
unfolding told
files = refl
