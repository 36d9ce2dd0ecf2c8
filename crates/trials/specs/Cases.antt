-- Worked cases of the trials (02, P6): each file with its node limit, and the finding.
use Rattle.std.specs.Prelude.{◌≡◌, refl, [], ◌∷◌, ℕ, pos}
use Rattle.endian.specs.Bytes.{same}
use Rattle.rules.specs.Files.{told, usual}
use Rattle.dutyfile.specs.declared.Edition.TheVariants.{Spp1}
use Rattle.dutyfile.specs.File.{Lists, lists, entries_of, entries, edition_in, parse, contents, header, render, bodies, shift, raised, raised_all, instance}
use Rattle.search.specs.Searching.{file_answer}
use Rattle.trials.specs.Trials.{extended, trial, own, no_crew, plan_exists, stopped_at, judged, trials_from, finding}

-- m 1, {1} at 5
abbrev whole : Lists
whole = lists Spp1 1 (pos 5 ∷ []) (1 ∷ []) (1 ∷ [])

-- m 2, {2} at 3: no duty for sailing 1
abbrev late : Lists
late = lists Spp1 2 (pos 3 ∷ []) (1 ∷ []) (2 ∷ [])

-- m 2, {1} at 3: no duty for sailing 2. Each trial has one node.
abbrev early : Lists
early = lists Spp1 2 (pos 3 ∷ []) (1 ∷ []) (1 ∷ [])

-- m 3, {1,2}, {2,3}, {1,3} at 1: any two share a sailing
abbrev pairs : Lists
pairs = lists Spp1 3 (pos 1 ∷ pos 1 ∷ pos 1 ∷ []) (2 ∷ 2 ∷ 2 ∷ []) (1 ∷ 2 ∷ 2 ∷ 3 ∷ 1 ∷ 3 ∷ [])

-- m 3, {1} at 5, {3} at a price and at 9: in trial 1 a duty at 1 is appended for sailing 3
abbrev beside : ℕ → Lists
beside price = lists Spp1 3 (pos 5 ∷ pos price ∷ pos 9 ∷ []) (1 ∷ 1 ∷ 1 ∷ []) (1 ∷ 3 ∷ 3 ∷ [])

-- m 4, {1} at 15, {1,2,3} at 7, {2,3} at 3, {1,3} at 3: within 2 nodes trial 3 is stopped with the plan 1 3; 2 is cheaper
abbrev cut : Lists
cut = lists Spp1 4 (pos 15 ∷ pos 7 ∷ pos 3 ∷ pos 3 ∷ []) (1 ∷ 3 ∷ 2 ∷ 2 ∷ []) (1 ∷ 1 ∷ 2 ∷ 3 ∷ 2 ∷ 3 ∷ 1 ∷ 3 ∷ [])

-- k and the duties shown; that a plan exists; or stopped at k
trial_cases :
    (finding whole usual
    ∷ finding late usual
    ∷ finding early usual
    -- each trial has the whole node limit
    ∷ finding early 1
    ∷ finding pairs 3
    ∷ finding pairs 2
    ∷ finding pairs 1
    -- an appended duty is cheaper than a duty at 2, and comes after one at 1
    ∷ finding (beside 2) usual
    ∷ finding (beside 1) usual
    -- a plan that a stopped trial has kept is shown
    ∷ finding cut usual
    ∷ finding cut 2
    ∷ [])
    ≡
    (plan_exists
    ∷ no_crew 1 []
    ∷ no_crew 2 (1 ∷ [])
    ∷ no_crew 2 (1 ∷ [])
    ∷ no_crew 3 (1 ∷ [])
    ∷ stopped_at 3
    ∷ stopped_at 1
    ∷ no_crew 2 (1 ∷ [])
    ∷ no_crew 2 (1 ∷ 2 ∷ [])
    ∷ no_crew 4 (2 ∷ [])
    ∷ no_crew 4 (1 ∷ 3 ∷ [])
    ∷ [])
unfolding told same entries_of entries edition_in parse contents header render bodies shift raised raised_all instance file_answer extended trial own judged trials_from finding
trial_cases = refl
