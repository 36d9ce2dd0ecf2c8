-- Worked tables, computed from the definition: examples 5 and 6 of the paper, and smaller ones for what each shows.
use mathlib.Core.Path.{◌≡◌, refl}
use mathlib.Core.List.{List, [], ◌∷◌}
use Prim.Native.Nat.{ℕ}
use Rattle.refusals.specs.Refusals.{ask, ◌then◌, Outcome, accepted, refused, unless}
use Rattle.assignments.specs.Cheapest.{joined, assignments, total_of, cheaper, cheapest, best}
use Rattle.assign.specs.Answer.{Values, told_best, told_none, values_of, vessel_numbers, sizes_fault, all_of, table_fault, assigning, vessel_list}

-- example 5: five crews and five vessels, with closed pairings
example5 : List (List ℕ)
example5 =
    (7 ∷ 3 ∷ 5 ∷ 7 ∷ 10 ∷ [])
    ∷ (6 ∷ 0 ∷ 0 ∷ 8 ∷ 7 ∷ [])
    ∷ (6 ∷ 5 ∷ 1 ∷ 5 ∷ 0 ∷ [])
    ∷ (11 ∷ 4 ∷ 0 ∷ 11 ∷ 15 ∷ [])
    ∷ (0 ∷ 4 ∷ 5 ∷ 2 ∷ 10 ∷ [])
    ∷ []

-- example 6: four crews and six vessels
example6 : List (List ℕ)
example6 =
    (9 ∷ 22 ∷ 58 ∷ 11 ∷ 19 ∷ 27 ∷ [])
    ∷ (43 ∷ 78 ∷ 72 ∷ 50 ∷ 63 ∷ 48 ∷ [])
    ∷ (41 ∷ 28 ∷ 91 ∷ 37 ∷ 45 ∷ 33 ∷ [])
    ∷ (74 ∷ 42 ∷ 27 ∷ 49 ∷ 39 ∷ 35 ∷ [])
    ∷ []

-- both assignments cost 9: the one that gives crew 1 vessel 1 comes first. The third vessel is outside
equal : List (List ℕ)
equal = (5 ∷ 4 ∷ 1 ∷ []) ∷ (5 ∷ 4 ∷ 1000001 ∷ []) ∷ []

-- both crews can have vessel 1 alone
shut : List (List ℕ)
shut = (7 ∷ 0 ∷ []) ∷ (7 ∷ 0 ∷ []) ∷ []

-- crew 2 can have vessel 1 alone, so crew 1 gets the dear one
dear : List (List ℕ)
dear = (1 ∷ 1000000 ∷ []) ∷ (3 ∷ 0 ∷ []) ∷ []

-- what a call answers, and what fills the front of its list
record Worked : Type 0 where
  answer : Outcome Values
  list : List ℕ

worked : List (List ℕ) → ℕ → ℕ → ℕ → Worked
worked t m n places = record { answer = assigning t m n places; list = vessel_list t m n }

cases : (
    worked example5 5 5 5
    ∷ worked example6 4 6 4
    ∷ worked equal 2 2 2
    ∷ worked equal 1 3 9
    ∷ worked shut 2 2 2
    ∷ worked shut 1 2 1
    ∷ worked dear 2 2 2
    ∷ [])
    ≡ record { answer = accepted (told_best 21); list = 1 ∷ 5 ∷ 3 ∷ 2 ∷ 4 ∷ [] }
    ∷ record { answer = accepted (told_best 109); list = 4 ∷ 1 ∷ 2 ∷ 3 ∷ [] }
    ∷ record { answer = accepted (told_best 9); list = 1 ∷ 2 ∷ [] }
    ∷ record { answer = accepted (told_best 1); list = 3 ∷ [] }
    ∷ record { answer = accepted told_none; list = [] }
    ∷ record { answer = accepted (told_best 7); list = 1 ∷ [] }
    ∷ record { answer = accepted (told_best 1000003); list = 2 ∷ 1 ∷ [] }
    ∷ []
unfolding worked example5 example6 equal shut dear assigning vessel_list values_of vessel_numbers table_fault sizes_fault all_of ask ◌then◌ unless best cheapest cheaper total_of assignments joined
cases = refl

-- the refusals in sequence, each with the faults that come after it
refusals : (
    assigning equal 0 3 0
    ∷ assigning equal 17 3 0
    ∷ assigning equal 1 17 0
    ∷ assigning equal 3 2 0
    ∷ assigning equal 2 3 1
    ∷ assigning equal 2 2 1
    ∷ [])
    ≡ refused 16
    ∷ refused 16
    ∷ refused 16
    ∷ refused 16
    ∷ refused 17
    ∷ refused 10
    ∷ []
unfolding equal assigning table_fault sizes_fault all_of ask ◌then◌ unless
refusals = refl
