-- The assigning call (02, P5): its tests, its answer in 02's terms, and what its list holds.
use Rattle.std.specs.Prelude.{Bool, true, ◌&&◌, List, [], map, ℕ, zero, suc, leb, Option, Some, None, Result, Ok, Err}
use Rattle.refusals.specs.declared.Refusal.{Refusal}
use Rattle.refusals.specs.Refusals.{Fault, ask, ◌then◌, Outcome, accepted, refused, unless, number_of}
use Rattle.assignments.specs.Assignment.{cost}
use Rattle.assignments.specs.Cheapest.{Found, nothing, found, best}

-- the values that 02 names: the least total, or none
pub data Values : Type 0 where
  told_best : ℕ → Values
  told_none : Values

-- what the call answers: these values, or a refusal with its number
unfoldable pub assign_outcome : Result (Option ℕ) Refusal → Outcome Values
assign_outcome (Ok (Some x)) = accepted (told_best x)
assign_outcome (Ok None) = accepted told_none
assign_outcome (Err why) = refused (number_of why)

-- the cheapest assignment as values, and as the vessels that are written, counted from 1
unfoldable pub values_of : Found → Values
values_of nothing = told_none
values_of (found x vessels) = told_best x

unfoldable pub vessel_numbers : Found → List ℕ
vessel_numbers nothing = []
vessel_numbers (found x vessels) = map suc vessels

-- 16: there are crews, at most 16 either way, and no more crews than vessels
unfoldable pub sizes_fault : ℕ → ℕ → Fault
sizes_fault m n = ask (leb 1 m) 16 then ask (leb m 16) 16 then ask (leb n 16) 16 then ask (leb m n) 16

-- f holds at j, j + 1, .., v of them
unfoldable pub all_of : (ℕ → Bool) → ℕ → ℕ → Bool
all_of f zero j = true
all_of f (suc v) j = f j && all_of f v (suc j)

-- the costs of one crew on n vessels, and of m crews, are at most 1,000,000
abbrev pub row_fits : (ℕ → ℕ) → ℕ → Bool
row_fits c n = all_of (λ j. leb (c j) 1000000) n 0

abbrev pub costs_fit : List (List ℕ) → ℕ → ℕ → Bool
costs_fit t m n = all_of (λ i. row_fits (cost t i) n) m 0

-- 16, 17, 10: where the lent answer list holds so many places
unfoldable pub table_fault : List (List ℕ) → ℕ → ℕ → ℕ → Fault
table_fault t m n places = sizes_fault m n then ask (costs_fit t m n) 17 then ask (leb m places) 10

-- assigning m crews to n vessels by a table of costs
unfoldable pub assigning : List (List ℕ) → ℕ → ℕ → ℕ → Outcome Values
assigning t m n places = unless (table_fault t m n places) (values_of (best t m n))

-- what fills the front of the answer list
unfoldable pub vessel_list : List (List ℕ) → ℕ → ℕ → List ℕ
vessel_list t m n = vessel_numbers (best t m n)
