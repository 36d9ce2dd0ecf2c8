-- The answer by sets of used vessels is the cheapest of all assignments, and of equals the first.
use mathlib.Core.Path.{◌≡◌, refl, sym, ◌∙◌, ap}
use mathlib.Core.Bool.{Bool, true, false, cond, not, ◌||◌}
use mathlib.Core.List.{List, [], ◌∷◌, map}
use Prim.Native.Nat.{ℕ, zero, suc, ◌+◌, ◌*◌, ◌^◌, ◌≤◌, ◌<◌}
use native.Mathlib.Omega.{arith}
use lib.Dec.{eqb, ltb}
use borrow.Author.Tests.{eqb-true, eqb-false, ltb-true, ltb-false}
use Rattle.assignments.specs.declared.Pick.{Pick}
use Rattle.assignments.specs.Assignment.{cost}
use Rattle.assignments.specs.Cheapest.{joined, with_one, assignments, total_of, Found, cheaper, cheapest, best}
use Rattle.assignments.specs.Sets.{no_total, has, offer, offers, lower, pick_from, unpicked, least_from, vessel, vessels_from, least_total, vessels, found_at, Priced}
use Rattle.assignments.proofs.Sets.{has_empty, has-added, has_other}
use Rattle.assignments.proofs.Picks.{lower-less, lower-kept}
use Rattle.assignments.proofs.Best.{taken}
use Rattle.assignments.proofs.Cheaper.{cheaper-nothing, cheaper_assoc, cheapest-joined, given, cheapest-given, found-low, found_high, keeps_former, takes_latter}

-- the used vessels are those of a set
abbrev Held : (ℕ → Bool) → ℕ → Type 0
Held used s = (j : ℕ) → used j ≡ not (eqb (has j s) 0)

held_with : (used : ℕ → Bool) (s j : ℕ) → has j s ≡ 0 → Held used s → Held (with_one used j) (s + 2 ^ j)
held_with used s j h w v = go (eqb v j) refl
  where
    go : (q : Bool) → eqb v j ≡ q → with_one used j v ≡ not (eqb (has v (s + 2 ^ j)) 0)
    go true q = ap (λ b. b || used v) q ∙ sym (ap (λ x. not (eqb x 0)) (ap (λ x. has x (s + 2 ^ j)) (eqb-true v j q) ∙ has-added j s h))
    go false q = ap (λ b. b || used v) q ∙ w v ∙ sym (ap (λ x. not (eqb x 0)) (has_other j v s h (eqb-false v j q)))

-- a pick of vessels, as what is found with it
module _ (f : ℕ → ℕ) (rest : ℕ → List ℕ) where
  abbrev found_by : Pick → Found
  found_by p = found_at p.cost (p.vessel ∷ rest p.vessel)

  found-lower : (b : Pick) (j : ℕ) → cheaper (found_by b) (found_at (f j) (j ∷ rest j)) ≡ found_by (lower b (f j) j)
  found-lower b j = go (ltb (f j) b.cost) refl
    where
      go : (q : Bool) → ltb (f j) b.cost ≡ q → cheaper (found_by b) (found_at (f j) (j ∷ rest j)) ≡ found_by (lower b (f j) j)
      go true q =
          let h = ltb-true (f j) b.cost q in
          takes_latter b.cost (f j) (b.vessel ∷ rest b.vessel) (j ∷ rest j) h ∙ sym (ap found_by (lower-less b (f j) j h))
      go false q =
          let h = ltb-false (f j) b.cost q in
          keeps_former b.cost (f j) (b.vessel ∷ rest b.vessel) (j ∷ rest j) h ∙ sym (ap found_by (lower-kept b (f j) j h))

  -- the vessels left, each with all that follows it, give the pick
  found_picks : (total : List ℕ → ℕ) (block : ℕ → List (List ℕ)) (n : ℕ) → ((j : ℕ) → j < n → cheapest total (block j) ≡ found_at (f j) (j ∷ rest j)) →
      (b : Pick) (v j : ℕ) → j + v ≤ n → cheaper (found_by b) (cheapest total (joined block v j)) ≡ found_by (pick_from f b v j)
  unfolding joined pick_from cheapest
  found_picks total block n h b zero j l = cheaper-nothing (found_by b)
  found_picks total block n h b (suc v) j l =
      ap (cheaper (found_by b)) (cheapest-joined total (block j) (joined block v (suc j)))
      ∙ sym (cheaper_assoc (found_by b) (cheapest total (block j)) (cheapest total (joined block v (suc j))))
      ∙ ap (λ a. cheaper a (cheapest total (joined block v (suc j)))) (ap (cheaper (found_by b)) (h j (omega arith)) ∙ found-lower b j)
      ∙ found_picks total block n h (lower b (f j) j) v (suc j) (omega arith)

module _ (t : List (List ℕ)) (m n : ℕ) (few : m ≤ 16) (priced : Priced t m n) where
  -- a total is far below what stands for none
  low-total : (k i s : ℕ) → i + k ≤ m → least_from t n k i s < no_total → least_from t n k i s ≤ 1000000 * k
  unfolding least_from
  low-total zero i s l h = omega arith
  low-total (suc k) i s l h =
      let v = taken t n k i s h in
      let j = vessel t n k i s in
      omega (arith, v.keeps, priced i j (omega arith) v.inside, low-total k (suc i) (s + 2 ^ j) (omega arith) (omega (arith, v.keeps, h)))

  -- what is found with vessel j for crew i
  module _ (k i s : ℕ) (used : ℕ → Bool) (l : i + suc k ≤ m) (held : Held used s) where
    abbrev rest : ℕ → ℕ
    rest = least_from t n k (suc i)

    abbrev tails : ℕ → List ℕ
    tails j = vessels_from t n k (suc i) (s + 2 ^ j)

    abbrev block : ℕ → List (List ℕ)
    block j = cond (used j) [] (cond (eqb (cost t i j) 0) [] (map (◌∷◌ j) (assignments t n k (suc i) (with_one used j))))

    open_block : (j : ℕ) → j < n →
        cheapest (total_of t (suc i)) (assignments t n k (suc i) (with_one used j)) ≡ found_at (rest (s + 2 ^ j)) (tails j) →
        cheapest (total_of t i) (map (◌∷◌ j) (assignments t n k (suc i) (with_one used j))) ≡ found_at (cost t i j + rest (s + 2 ^ j)) (j ∷ tails j)
    unfolding total_of given
    open_block j h e =
        cheapest-given (total_of t i) (total_of t (suc i)) (cost t i j) j (λ xs. refl) (assignments t n k (suc i) (with_one used j))
        ∙ ap (given (cost t i j) j) e
        ∙ go (ltb (rest (s + 2 ^ j)) no_total) refl
      where
        go : (q : Bool) → ltb (rest (s + 2 ^ j)) no_total ≡ q →
            given (cost t i j) j (found_at (rest (s + 2 ^ j)) (tails j)) ≡ found_at (cost t i j + rest (s + 2 ^ j)) (j ∷ tails j)
        go true q =
            let u = ltb-true (rest (s + 2 ^ j)) no_total q in
            let b = low-total k (suc i) (s + 2 ^ j) (omega arith) u in
            rw (found-low (rest (s + 2 ^ j)) (tails j) u)
            (sym (found-low (cost t i j + rest (s + 2 ^ j)) (j ∷ tails j) (omega (arith, b, few, priced i j (omega arith) h))))
        go false q =
            let u = ltb-false (rest (s + 2 ^ j)) no_total q in
            rw (found_high (rest (s + 2 ^ j)) (tails j) u) (sym (found_high (cost t i j + rest (s + 2 ^ j)) (j ∷ tails j) (omega (arith, u))))

    block_is : (j : ℕ) → j < n →
        (has j s ≡ 0 → cheapest (total_of t (suc i)) (assignments t n k (suc i) (with_one used j)) ≡ found_at (rest (s + 2 ^ j)) (tails j)) →
        cheapest (total_of t i) (block j) ≡ found_at (offers (cost t i) rest s j) (j ∷ tails j)
    unfolding cheapest offer
    block_is j h again = go (eqb (has j s) 0) (eqb (cost t i j) 0) refl refl
      where
        go : (p q : Bool) → eqb (has j s) 0 ≡ p → eqb (cost t i j) 0 ≡ q → cheapest (total_of t i) (block j) ≡ found_at (offers (cost t i) rest s j) (j ∷ tails j)
        go false q e f = rw (held j, e)
        go true true e f = rw (held j, e, f)
        go true false e f =
            rw (held j, e, f) (open_block j h (again (eqb-true (has j s) 0 e)))

  from-crew : (k i s : ℕ) (used : ℕ → Bool) → i + k ≤ m → Held used s →
      cheapest (total_of t i) (assignments t n k i used) ≡ found_at (least_from t n k i s) (vessels_from t n k i s)
  unfolding assignments cheapest cheaper total_of least_from vessels_from vessel
  from-crew zero i s used l held = refl
  from-crew (suc k) i s used l held =
      found_picks (offers (cost t i) (rest k i s used l held) s) (tails k i s used l held) (total_of t i) (block k i s used l held) n
      (λ j h. block_is k i s used l held j h (λ u. from-crew k (suc i) (s + 2 ^ j) (with_one used j) (omega arith) (held_with used s j u held)))
      unpicked n 0 (omega arith)

-- of all assignments the first of the cheapest is what the sets give
pub enumerated : (t : List (List ℕ)) (m n : ℕ) → m ≤ 16 → Priced t m n → best t m n ≡ found_at (least_total t m n) (vessels t m n)
unfolding best
enumerated t m n few priced = from-crew t m n few priced m 0 0 (λ j. false) (omega arith) (λ j. rw (has_empty j))
