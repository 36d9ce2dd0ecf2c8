-- The pick of some vessels: nothing that was looked at comes to less, and no vessel before it comes to as little.
use mathlib.Core.Path.{◌≡◌, refl, ◌∙◌, ap}
use mathlib.Core.Bool.{Bool, true, false, cond}
use Prim.Native.Nat.{ℕ, zero, suc, ◌+◌, ◌^◌, ◌≤◌, ◌<◌}
use native.Mathlib.Omega.{arith}
use lib.Dec.{eqb, ltb}
use borrow.Author.Tests.{eqb-true, eqb-false, eq-eqb, ne_eqb, ltb-true, ltb-false, lt-ltb, le-ltb}
use Rattle.assignments.specs.declared.Pick.{Pick}
use Rattle.assignments.specs.Sets.{no_total, has, offer, offers, lower, pick_from}

-- one vessel more
pub lower-less : (b : Pick) (x j : ℕ) → x < b.cost → lower b x j ≡ record { cost = x; vessel = j }
unfolding lower
lower-less b x j h = rw (lt-ltb x b.cost h)

pub lower-kept : (b : Pick) (x j : ℕ) → b.cost ≤ x → lower b x j ≡ b
unfolding lower
lower-kept b x j h = rw (le-ltb x b.cost h)

-- it comes to no more than either
record Lowered (b : Pick) (x j : ℕ) : Type 0 where
  old : (lower b x j).cost ≤ b.cost
  new : (lower b x j).cost ≤ x

lowered : (b : Pick) (x j : ℕ) → Lowered b x j
lowered b x j = go (ltb x b.cost) refl
  where
    go : (q : Bool) → ltb x b.cost ≡ q → Lowered b x j
    go true q =
        let e = ap (λ (p : Pick). p.cost) (lower-less b x j (ltb-true x b.cost q)) in
        record { old = omega (arith, e, ltb-true x b.cost q); new = omega (arith, e) }
    go false q =
        let e = ap (λ (p : Pick). p.cost) (lower-kept b x j (ltb-false x b.cost q)) in
        record { old = omega (arith, e); new = omega (arith, e, ltb-false x b.cost q) }

module _ (f : ℕ → ℕ) where
  pub pick_cap : (b : Pick) (v j : ℕ) → (pick_from f b v j).cost ≤ b.cost
  unfolding pick_from
  pick_cap b zero j = omega arith
  pick_cap b (suc v) j = omega (arith, pick_cap (lower b (f j) j) v (suc j), (lowered b (f j) j).old)

  pub pick_le : (b : Pick) (v j c : ℕ) → j ≤ c → c < j + v → (pick_from f b v j).cost ≤ f c
  unfolding pick_from
  pick_le b zero j c l h = absurd (omega arith)
  pick_le b (suc v) j c l h = go (eqb c j) refl (λ o. pick_le (lower b (f j) j) v (suc j) c o (omega arith))
    where
      go : (q : Bool) → eqb c j ≡ q → (suc j ≤ c → (pick_from f (lower b (f j) j) v (suc j)).cost ≤ f c) →
          (pick_from f (lower b (f j) j) v (suc j)).cost ≤ f c
      go true q k = rw (eqb-true c j q) (omega (arith, pick_cap (lower b (f j) j) v (suc j), (lowered b (f j) j).new))
      go false q k = let ne = eqb-false c j q in k (omega arith)

  -- where nothing comes to less, what was picked stays
  pick_stays : (b : Pick) (v j : ℕ) → b.cost ≤ (pick_from f b v j).cost → pick_from f b v j ≡ b
  unfolding pick_from
  pick_stays b zero j h = refl
  pick_stays b (suc v) j h =
      let e : lower b (f j) j ≡ b = lower-kept b (f j) j (omega (arith, h, pick_cap (lower b (f j) j) v (suc j), (lowered b (f j) j).new)) in
      ap (λ p. pick_from f p v (suc j)) e ∙ pick_stays b v (suc j) (omega (arith, h, ap (λ p. (pick_from f p v (suc j)).cost) e))

-- the pick is one of v vessels from j on, and those before it come to more
pub record Picked (f : ℕ → ℕ) (v j : ℕ) (p : Pick) : Type 0 where
  pub low : j ≤ p.vessel
  pub high : p.vessel < j + v
  pub is : f p.vessel ≡ p.cost
  pub before : (d : ℕ) → j ≤ d → d < p.vessel → p.cost < f d

later : (f : ℕ → ℕ) (v j : ℕ) (p : Pick) → p.cost < f j → Picked f v (suc j) p → Picked f (suc v) j p
later f v j p h w = record {
  low = omega (arith, w.low);
  high = omega (arith, w.high);
  is = w.is;
  before = λ d l u. go d l u (eqb d j) refl;
}
  where
    go : (d : ℕ) → j ≤ d → d < p.vessel → (q : Bool) → eqb d j ≡ q → p.cost < f d
    go d l u true q = rw (eqb-true d j q) h
    go d l u false q = let ne = eqb-false d j q in w.before d (omega arith) u

pub picked : (f : ℕ → ℕ) (b : Pick) (v j : ℕ) → (pick_from f b v j).cost < b.cost → Picked f v j (pick_from f b v j)
unfolding pick_from
picked f b zero j h = absurd (omega arith)
picked f b (suc v) j h = go (ltb (f j) b.cost) refl (λ o. picked f (lower b (f j) j) v (suc j) o)
  where
    rest : Pick
    rest = pick_from f (lower b (f j) j) v (suc j)

    here : f j < b.cost → f j ≤ rest.cost → Picked f (suc v) j rest
    here l e =
        let b' : Pick = record { cost = f j; vessel = j } in
        let p : lower b (f j) j ≡ b' = lower-less b (f j) j l in
        let q : rest ≡ b' = ap (λ a. pick_from f a v (suc j)) p ∙ pick_stays f b' v (suc j) (omega (arith, e, ap (λ a. (pick_from f a v (suc j)).cost) p)) in
        rw q (record { low = omega arith; high = omega arith; is = refl; before = λ d x y. absurd (omega arith) })

    either : f j < b.cost → (rest.cost < (lower b (f j) j).cost → Picked f v (suc j) rest) → (r : Bool) → ltb rest.cost (f j) ≡ r → Picked f (suc v) j rest
    either l k true r =
        let e = ap (λ (p : Pick). p.cost) (lower-less b (f j) j l) in
        let u = ltb-true rest.cost (f j) r in
        later f v j rest u (k (omega (arith, e, u)))
    either l k false r = here l (ltb-false rest.cost (f j) r)

    go : (q : Bool) → ltb (f j) b.cost ≡ q → (rest.cost < (lower b (f j) j).cost → Picked f v (suc j) rest) → Picked f (suc v) j rest
    go true q k = either (ltb-true (f j) b.cost q) k (ltb rest.cost (f j)) refl
    go false q k =
        let l = ltb-false (f j) b.cost q in
        let e = ap (λ (p : Pick). p.cost) (lower-kept b (f j) j l) in
        later f v j rest (omega (arith, h)) (k (omega (arith, e, h)))

-- the pick depends on nothing but what the vessels looked at come to
pub pick_same : (f g : ℕ → ℕ) (b : Pick) (v j : ℕ) → ((c : ℕ) → j ≤ c → c < j + v → f c ≡ g c) → pick_from f b v j ≡ pick_from g b v j
unfolding pick_from
pick_same f g b zero j h = refl
pick_same f g b (suc v) j h =
    rw (h j (omega arith) (omega arith)) (pick_same f g (lower b (g j) j) v (suc j) (λ c l u. h c (omega arith) (omega arith)))

-- a vessel that is open and not used
pub record Free (c : ℕ → ℕ) (s j : ℕ) : Type 0 where
  pub unused : has j s ≡ 0
  pub priced : 0 < c j

-- it comes to its cost and the rest
pub offer-free : (used c rest : ℕ) → used ≡ 0 → 0 < c → offer used c rest ≡ c + rest
unfolding offer
offer-free used c rest u p = rw (eq-eqb used 0 u, ne_eqb c 0 (λ e. omega arith))

pub offers-free : (c rest : ℕ → ℕ) (s j : ℕ) → Free c s j → offers c rest s j ≡ c j + rest (s + 2 ^ j)
offers-free c rest s j w = offer-free (has j s) (c j) (rest (s + 2 ^ j)) w.unused w.priced

pub free-offers : (c rest : ℕ → ℕ) (s j : ℕ) → offers c rest s j < no_total → Free c s j
unfolding offer
free-offers c rest s j h = go (eqb (has j s) 0) (eqb (c j) 0) refl refl h
  where
    go : (a b : Bool) → eqb (has j s) 0 ≡ a → eqb (c j) 0 ≡ b → cond a (cond b no_total (c j + rest (s + 2 ^ j))) no_total < no_total → Free c s j
    go true true x y l = absurd (omega arith)
    go true false x y l =
        let d = eqb-false (c j) 0 y in record { unused = eqb-true (has j s) 0 x; priced = omega arith }
    go false b x y l = absurd (omega arith)

-- what a vessel comes to looks at the rest only where the vessel is not used
pub offers-same : (c f g : ℕ → ℕ) (s j : ℕ) → (has j s ≡ 0 → f (s + 2 ^ j) ≡ g (s + 2 ^ j)) → offers c f s j ≡ offers c g s j
unfolding offer
offers-same c f g s j h = go (eqb (has j s) 0) refl
  where
    go : (b : Bool) → eqb (has j s) 0 ≡ b → offers c f s j ≡ offers c g s j
    go true e = rw (h (eqb-true (has j s) 0 e))
    go false e = simp (offer, e)
