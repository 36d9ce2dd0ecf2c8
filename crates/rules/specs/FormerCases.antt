-- Worked cases of the search as it was: example 4 by the former criterion 3 (02, before P4), with 01's answers for the node limits 6, 5 and
-- 3; and a column in both lists (02, before P9), with the cases of `request_cases` that are otherwise now.
use Rattle.std.specs.Prelude.{◌≡◌, refl, [], ◌∷◌, ℕ}
use Rattle.node.specs.Matrix.{Matrix, Instance}
use Rattle.node.specs.Node.{root}
use Rattle.rules.specs.Reduce.{formerly_precedes}
use Rattle.rules.specs.Search.{plan, Answer, best, none, stopped}
use Rattle.rules.specs.Tree.{Variant, sum}
use Rattle.rules.specs.Files.{told, usual, solved_by, example4}
use Rattle.rules.specs.Longest.{largest, raised, longest}
use Rattle.rules.specs.Agreed.{without, with_all, agreed_start}
use Rattle.rules.specs.Pairs.{pairs_of, pass, paired_by, paired}
use Rattle.rules.specs.Requests.{Requests, asking, unstruck_start, requested}
use Rattle.rules.specs.RequestCases.{last_plan}

abbrev formerly_solved : Instance → ℕ → Answer
formerly_solved = solved_by formerly_precedes

former_cases :
    (formerly_solved example4 6 ∷ formerly_solved example4 5 ∷ formerly_solved example4 3 ∷ [])
    ≡
    (best 42 39 6 (3 ∷ 6 ∷ 9 ∷ [])
    ∷ stopped (plan 46 (2 ∷ 5 ∷ 10 ∷ [])) 39 5
    ∷ stopped (plan 49 (5 ∷ 7 ∷ 8 ∷ [])) 39 3
    ∷ [])
unfolding told
former_cases = refl

-- both lists hold this number
abbrev unstruck : (Matrix → Variant) → Instance → ℕ → Answer
unstruck search p j =
    let m : Matrix = p.matrix in
    let q : Requests = asking (j ∷ []) (j ∷ []) [] in
    told (requested m q (search m)) m (unstruck_start (search m) m q (root m p.costs)) usual

unstruck_cases :
    (unstruck sum example4 6 ∷ unstruck longest example4 6 ∷ unstruck sum last_plan 4 ∷ [])
    ≡
    (none 1 ∷ none 1 ∷ none 1 ∷ [])
unfolding told largest raised without with_all agreed_start unstruck_start pairs_of pass paired_by paired
unstruck_cases = refl
