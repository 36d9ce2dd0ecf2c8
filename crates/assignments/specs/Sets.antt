-- The same answer by sets of used vessels, as the code computes it: the least total from a crew on, and the lowest vessel that keeps it.
use Rattle.std.specs.Prelude.{cond, List, [], ◌∷◌, ℕ, zero, suc, ◌+◌, ◌^◌, ◌/◌, ◌%◌, ◌≤◌, ◌<◌, eqb, ltb}
use Rattle.assignments.specs.declared.Pick.{Pick}
use Rattle.assignments.specs.Assignment.{cost}
use Rattle.assignments.specs.Cheapest.{Found, nothing, found}

-- stands where there is no assignment: it is above every total
abbrev pub no_total : ℕ
no_total = 1000000000

-- a set of vessels is a number in which vessel j weighs 2 ^ j: 1 if the set holds j, else 0
unfoldable pub has : ℕ → ℕ → ℕ
has j s = s / 2 ^ j % 2

-- how many of the lowest n vessels a set holds
unfoldable pub count : ℕ → ℕ → ℕ
count zero s = 0
count (suc n) s = s % 2 + count n (s / 2)

-- what a vessel comes to for a crew: its cost and the rest after it; no total if it is used or closed
unfoldable pub offer : ℕ → ℕ → ℕ → ℕ
offer used c rest = cond (eqb used 0) (cond (eqb c 0) no_total (c + rest)) no_total

-- what vessel j comes to, by the crew's costs and by the rest after each set
abbrev pub offers : (ℕ → ℕ) → (ℕ → ℕ) → ℕ → ℕ → ℕ
offers c rest s j = offer (has j s) (c j) (rest (s + 2 ^ j))

-- one more vessel looked at: it is picked if it comes to less
unfoldable pub lower : Pick → ℕ → ℕ → Pick
lower best x j = cond (ltb x best.cost) (record { cost = x; vessel = j }) best

-- the pick after vessels j, j + 1, .., v of them
unfoldable pub pick_from : (ℕ → ℕ) → Pick → ℕ → ℕ → Pick
pick_from f best zero j = best
pick_from f best (suc v) j = pick_from f (lower best (f j) j) v (suc j)

abbrev pub unpicked : Pick
unpicked = record { cost = no_total; vessel = 0 }

abbrev pub pick : (ℕ → ℕ) → ℕ → Pick
pick f n = pick_from f unpicked n 0

-- the least total of the k crews from crew i on, on n vessels of which those in s are used
unfoldable pub least_from : List (List ℕ) → ℕ → ℕ → ℕ → ℕ → ℕ
least_from t n zero i s = 0
least_from t n (suc k) i s = (pick (offers (cost t i) (least_from t n k (suc i)) s) n).cost

-- the lowest vessel that keeps it for crew i, with k crews after it
unfoldable pub vessel : List (List ℕ) → ℕ → ℕ → ℕ → ℕ → ℕ
vessel t n k i s = (pick (offers (cost t i) (least_from t n k (suc i)) s) n).vessel

-- the vessels of the k crews from crew i on
unfoldable pub vessels_from : List (List ℕ) → ℕ → ℕ → ℕ → ℕ → List ℕ
vessels_from t n zero i s = []
vessels_from t n (suc k) i s = vessel t n k i s ∷ vessels_from t n k (suc i) (s + 2 ^ vessel t n k i s)

abbrev pub least_total : List (List ℕ) → ℕ → ℕ → ℕ
least_total t m n = least_from t n m 0 0

abbrev pub vessels : List (List ℕ) → ℕ → ℕ → List ℕ
vessels t m n = vessels_from t n m 0 0

-- a total and vessels as an answer
abbrev pub found_at : ℕ → List ℕ → Found
found_at x xs = cond (ltb x no_total) (found x xs) nothing

-- the costs given are at most 1,000,000
abbrev pub Priced : List (List ℕ) → ℕ → ℕ → Type 0
Priced t m n = (i j : ℕ) → i < m → j < n → cost t i j ≤ 1000000
