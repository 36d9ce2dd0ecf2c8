-- Worked cases of pairs of columns (02, P8), with lists of columns numbered from 1: small instances that one rule decides.
use Rattle.std.specs.Prelude.{◌≡◌, refl, List, [], ◌∷◌, ℕ}
use Rattle.node.specs.Matrix.{Instance}
use Rattle.rules.specs.Search.{nothing, Answer, best, none, stopped}
use Rattle.rules.specs.Tree.{sum}
use Rattle.rules.specs.Files.{file, told, usual}
use Rattle.rules.specs.Longest.{largest, raised, longest}
use Rattle.rules.specs.Agreed.{without, with_all, agreed_start, struck}
use Rattle.rules.specs.Pairs.{pairs_of, pair_asked, pass_on, pass, paired_by, paired}
use Rattle.rules.specs.Requests.{asking, begun}
use Rattle.rules.specs.RequestCases.{with}

abbrev solved_paired : Instance → ℕ → List ℕ → List ℕ → List ℕ → Answer
solved_paired p limit agreed absent pairs = with sum p limit (asking agreed absent pairs)

abbrev found_paired : Instance → ℕ → List ℕ → List ℕ → List ℕ → Answer
found_paired p limit agreed absent pairs = with longest p limit (asking agreed absent pairs)

-- m 2, {1} at 1, {1} at 2, {2} at 1, {2} at 3: the plans are 1 3 at 2, 2 3 at 3, 1 4 at 4 and 2 4 at 5
abbrev four_duties : Instance
four_duties = file 2 (1 ∷ 2 ∷ 1 ∷ 3 ∷ []) ((1 ∷ []) ∷ (1 ∷ []) ∷ (2 ∷ []) ∷ (2 ∷ []) ∷ [])

-- the same, and {2} at 5
abbrev five_duties : Instance
five_duties = file 2 (1 ∷ 2 ∷ 1 ∷ 3 ∷ 5 ∷ []) ((1 ∷ []) ∷ (1 ∷ []) ∷ (2 ∷ []) ∷ (2 ∷ []) ∷ (2 ∷ []) ∷ [])

-- m 2, {1,2} at 9, {1} at 4, {2} at 4: column 1 shares a row with each of the others
abbrev whole : Instance
whole = file 2 (9 ∷ 4 ∷ 4 ∷ []) ((1 ∷ 2 ∷ []) ∷ (1 ∷ []) ∷ (2 ∷ []) ∷ [])

-- m 2, {1} at 1, {2} at 1, {2} at 2
abbrev forced_first : Instance
forced_first = file 2 (1 ∷ 1 ∷ 2 ∷ []) ((1 ∷ []) ∷ (2 ∷ []) ∷ (2 ∷ []) ∷ [])

-- m 3, {1} at 1, {2} at 4, {2} at 1, {3} at 4, {3} at 1
abbrev chained : Instance
chained = file 3 (1 ∷ 4 ∷ 1 ∷ 4 ∷ 1 ∷ []) ((1 ∷ []) ∷ (2 ∷ []) ∷ (2 ∷ []) ∷ (3 ∷ []) ∷ (3 ∷ []) ∷ [])

pair_cases :
    -- the second is taken, and its cost counts in the bound
    (solved_paired four_duties usual (1 ∷ []) [] (1 ∷ 4 ∷ [])
    ∷ found_paired four_duties usual (1 ∷ []) [] (1 ∷ 4 ∷ [])
    -- the second is out and the first is taken: at the root, and below it
    ∷ solved_paired whole usual (2 ∷ []) [] (2 ∷ 1 ∷ [])
    ∷ found_paired whole usual (2 ∷ []) [] (2 ∷ 1 ∷ [])
    ∷ solved_paired whole usual [] [] (2 ∷ 1 ∷ [])
    ∷ found_paired whole usual [] [] (2 ∷ 1 ∷ [])
    ∷ solved_paired whole 2 [] [] (2 ∷ 1 ∷ [])
    -- the second is out and the first stops being free: at the root, and below it
    ∷ solved_paired four_duties usual [] (4 ∷ []) (1 ∷ 4 ∷ [])
    ∷ solved_paired four_duties usual [] [] (1 ∷ 4 ∷ [])
    ∷ found_paired four_duties usual [] [] (1 ∷ 4 ∷ [])
    -- the pair the other way round
    ∷ solved_paired four_duties usual [] [] (4 ∷ 1 ∷ [])
    -- the second pair leaves a column, forcing takes another, and the first pair a third
    ∷ solved_paired five_duties usual [] (4 ∷ []) (2 ∷ 5 ∷ 1 ∷ 4 ∷ [])
    ∷ found_paired five_duties usual [] (4 ∷ []) (2 ∷ 5 ∷ 1 ∷ 4 ∷ [])
    -- forcing takes the first
    ∷ solved_paired forced_first usual [] [] (1 ∷ 3 ∷ [])
    ∷ solved_paired forced_first usual [] (3 ∷ []) (1 ∷ 3 ∷ [])
    -- a ring: none of it, and all of it
    ∷ solved_paired four_duties usual [] [] (1 ∷ 4 ∷ 4 ∷ 1 ∷ [])
    ∷ solved_paired four_duties usual (4 ∷ []) [] (1 ∷ 4 ∷ 4 ∷ 1 ∷ [])
    -- a chain against its sequence, and one pair twice
    ∷ solved_paired chained usual (1 ∷ []) [] (2 ∷ 4 ∷ 1 ∷ 2 ∷ [])
    ∷ solved_paired four_duties usual (1 ∷ []) [] (1 ∷ 4 ∷ 1 ∷ 4 ∷ [])
    -- an agreed first and an absent second
    ∷ solved_paired four_duties usual (1 ∷ []) (4 ∷ []) (1 ∷ 4 ∷ [])
    -- a column in both lists, as the first and as the second
    ∷ solved_paired four_duties usual (1 ∷ []) (1 ∷ []) (1 ∷ 4 ∷ [])
    ∷ solved_paired four_duties usual (1 ∷ []) (1 ∷ []) (4 ∷ 1 ∷ [])
    ∷ [])
    ≡
    (best 4 4 1 (1 ∷ 4 ∷ [])
    ∷ best 3 3 1 (1 ∷ 4 ∷ [])
    ∷ none 1
    ∷ none 1
    ∷ best 9 8 3 (1 ∷ [])
    ∷ best 9 4 3 (1 ∷ [])
    ∷ stopped nothing 8 2
    ∷ best 3 3 1 (2 ∷ 3 ∷ [])
    ∷ best 3 2 2 (2 ∷ 3 ∷ [])
    ∷ best 2 1 2 (2 ∷ 3 ∷ [])
    ∷ best 2 2 3 (1 ∷ 3 ∷ [])
    ∷ best 7 7 1 (2 ∷ 5 ∷ [])
    ∷ best 5 5 1 (2 ∷ 5 ∷ [])
    ∷ best 3 3 1 (1 ∷ 3 ∷ [])
    ∷ none 1
    ∷ best 3 2 2 (2 ∷ 3 ∷ [])
    ∷ best 4 4 1 (1 ∷ 4 ∷ [])
    ∷ best 9 9 1 (1 ∷ 2 ∷ 4 ∷ [])
    ∷ best 4 4 1 (1 ∷ 4 ∷ [])
    ∷ none 1
    ∷ best 3 3 2 (2 ∷ 3 ∷ [])
    ∷ best 3 3 1 (2 ∷ 3 ∷ [])
    ∷ [])
unfolding told largest raised without with_all agreed_start struck begun pairs_of pair_asked pass_on pass paired_by paired
pair_cases = refl
