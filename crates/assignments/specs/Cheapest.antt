-- The answer, computed from the text of P5: all assignments in sequence, and of the cheapest the first.
use Rattle.std.specs.Prelude.{Bool, false, cond, ◌||◌, List, [], ◌∷◌, ◌++◌, map, ℕ, zero, suc, ◌+◌, eqb, leb}
use Rattle.assignments.specs.Assignment.{cost}

-- f j, f (j + 1), .., v lists one after another
unfoldable pub joined : {A : Type 0} → (ℕ → List A) → ℕ → ℕ → List A
joined f zero j = []
joined f (suc v) j = f j ++ joined f v (suc j)

-- the used vessels, with one more
abbrev pub with_one : (ℕ → Bool) → ℕ → ℕ → Bool
with_one used j v = eqb v j || used v

-- every assignment of the k crews from crew i on over open pairings and vessels that are not used, as a list of vessels crew by crew; the
-- lists rise, read crew by crew
unfoldable pub assignments : List (List ℕ) → ℕ → ℕ → ℕ → (ℕ → Bool) → List (List ℕ)
assignments t n zero i used = [] ∷ []
assignments t n (suc k) i used =
    joined (λ j. cond (used j) [] (cond (eqb (cost t i j) 0) [] (map (◌∷◌ j) (assignments t n k (suc i) (with_one used j))))) n 0

-- the total of such a list
unfoldable pub total_of : List (List ℕ) → ℕ → List ℕ → ℕ
total_of t i [] = 0
total_of t i (j ∷ js) = cost t i j + total_of t (suc i) js

-- an assignment with its total, or none
pub data Found : Type 0 where
  nothing : Found
  found : ℕ → List ℕ → Found

-- the cheaper of two, and of equals the former
unfoldable pub cheaper : Found → Found → Found
cheaper nothing b = b
cheaper (found x xs) nothing = found x xs
cheaper (found x xs) (found y ys) = cond (leb x y) (found x xs) (found y ys)

-- the cheapest of a list of assignments, and of equals the first
unfoldable pub cheapest : (List ℕ → ℕ) → List (List ℕ) → Found
cheapest f [] = nothing
cheapest f (xs ∷ xss) = cheaper (found (f xs) xs) (cheapest f xss)

-- the least total of m crews on n vessels with the first assignment that has it; nothing if there is no assignment
unfoldable pub best : List (List ℕ) → ℕ → ℕ → Found
best t m n = cheapest (total_of t 0) (assignments t n m 0 (λ j. false))
