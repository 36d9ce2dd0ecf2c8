-- Places outside the crews and vessels given do not count: two tables with the same costs inside have the same answer.
use mathlib.Core.Path.{◌≡◌, refl, sym, ◌∙◌, ap}
use mathlib.Core.Bool.{Bool, true, false, cond}
use mathlib.Core.List.{List, [], map, ◌∷◌}
use Prim.Native.Nat.{ℕ, zero, suc, ◌+◌, ◌≤◌, ◌<◌}
use native.Mathlib.Omega.{arith}
use lib.Dec.{eqb}
use Rattle.assignments.specs.Assignment.{cost}
use Rattle.assignments.specs.Cheapest.{joined, with_one, assignments, total_of, cheaper, cheapest, best}
use Rattle.assignments.proofs.Cheaper.{cheapest-joined, given, cheapest-given}

-- lists one after another, each with the same cheapest one
joined_same : (f g : List ℕ → ℕ) (a b : ℕ → List (List ℕ)) (v j : ℕ) → ((c : ℕ) → c < j + v → cheapest f (a c) ≡ cheapest g (b c)) →
    cheapest f (joined a v j) ≡ cheapest g (joined b v j)
unfolding joined cheapest
joined_same f g a b zero j h = refl
joined_same f g a b (suc v) j h =
    rw (cheapest-joined f (a j) (joined a v (suc j)), cheapest-joined g (b j) (joined b v (suc j)), h j (omega arith))
    (ap (cheaper (cheapest g (b j))) (joined_same f g a b v (suc j) (λ c l. h c (omega arith))))

module _ (t u : List (List ℕ)) (m n : ℕ) (same : (i j : ℕ) → i < m → j < n → cost t i j ≡ cost u i j) where
  from-crew : (k i : ℕ) (used : ℕ → Bool) → i + k ≤ m →
      cheapest (total_of t i) (assignments t n k i used) ≡ cheapest (total_of u i) (assignments u n k i used)
  unfolding assignments cheapest total_of
  from-crew zero i used l = refl
  from-crew (suc k) i used l =
      joined_same (total_of t i) (total_of u i) (block t) (block u) n 0
      (λ j h. either j (same i j (omega arith) (omega arith)) (from-crew k (suc i) (with_one used j) (omega arith)) (used j) (eqb (cost u i j) 0) refl)
    where
      after : List (List ℕ) → ℕ → List (List ℕ)
      after x j = map (◌∷◌ j) (assignments x n k (suc i) (with_one used j))

      block : List (List ℕ) → ℕ → List (List ℕ)
      block x j = cond (used j) [] (cond (eqb (cost x i j) 0) [] (after x j))

      -- a vessel that is used, one that is closed, and one that the crew can get
      either : (j : ℕ) → cost t i j ≡ cost u i j →
          cheapest (total_of t (suc i)) (assignments t n k (suc i) (with_one used j)) ≡ cheapest (total_of u (suc i)) (assignments u n k (suc i) (with_one used j)) →
          (p q : Bool) → eqb (cost u i j) 0 ≡ q →
          cheapest (total_of t i) (cond p [] (cond (eqb (cost t i j) 0) [] (after t j))) ≡ cheapest (total_of u i) (cond p [] (cond (eqb (cost u i j) 0) [] (after u j)))
      either j e again true q f = refl
      either j e again false true f = rw (e, f)
      either j e again false false f =
          rw (e, f)
          (cheapest-given (total_of t i) (total_of t (suc i)) (cost u i j) j (λ xs. ap (λ c. c + total_of t (suc i) xs) e) (assignments t n k (suc i) (with_one used j))
          ∙ ap (given (cost u i j) j) again
          ∙ sym (cheapest-given (total_of u i) (total_of u (suc i)) (cost u i j) j (λ xs. refl) (assignments u n k (suc i) (with_one used j))))

  pub best-inside : best t m n ≡ best u m n
  unfolding best
  best-inside = from-crew m 0 (λ j. false) (omega arith)
