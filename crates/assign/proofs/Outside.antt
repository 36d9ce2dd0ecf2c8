-- Places outside the crews and vessels given do not count: two tables with the same costs inside have the same answer, refusals among
-- them, and the same list.
use mathlib.Core.Path.{◌≡◌, refl, ap}
use mathlib.Core.Bool.{Bool}
use mathlib.Core.List.{List}
use Prim.Native.Nat.{ℕ, zero, suc, ◌+◌, ◌<◌}
use native.Mathlib.Omega.{arith}
use lib.Dec.{leb}
use Rattle.assignments.specs.Assignment.{cost}
use Rattle.assignments.proofs.Outside.{best-inside}
use Rattle.assign.specs.Answer.{all_of, costs_fit, table_fault, assigning, vessel_list, vessel_numbers}

all_same : (f g : ℕ → Bool) (v j : ℕ) → ((c : ℕ) → c < j + v → f c ≡ g c) → all_of f v j ≡ all_of g v j
unfolding all_of
all_same f g zero j h = refl
all_same f g (suc v) j h = rw (h j (omega arith), all_same f g v (suc j) (λ c l. h c (omega arith)))

module _ (t u : List (List ℕ)) (m n : ℕ) (same : (i j : ℕ) → i < m → j < n → cost t i j ≡ cost u i j) where
  costs-inside : costs_fit t m n ≡ costs_fit u m n
  costs-inside =
      all_same _ _ m 0 (λ i h. all_same _ _ n 0 (λ j l. ap (λ x. leb x 1000000) (same i j (omega arith) (omega arith))))

  pub assigning-inside : (places : ℕ) → assigning t m n places ≡ assigning u m n places
  unfolding assigning table_fault
  assigning-inside places = rw (costs-inside, best-inside t u m n same)

  pub list_inside : vessel_list t m n ≡ vessel_list u m n
  unfolding vessel_list
  list_inside = ap vessel_numbers (best-inside t u m n same)
