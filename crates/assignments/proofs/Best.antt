-- The computed assignment is the best: over any assignment as a function from crews to vessels.
use mathlib.Core.Path.{◌≡◌, refl, sym, ◌∙◌, ap}
use mathlib.Core.Bool.{Bool, true, false}
use mathlib.Core.List.{List, [], ◌∷◌, ◌++◌, map}
use Prim.Native.Nat.{ℕ, zero, suc, ◌+◌, ◌-◌, ◌*◌, ◌^◌, ◌≤◌, ◌<◌}
use native.Mathlib.Omega.{arith}
use lib.Dec.{eqb, ltb}
use lib.ListN.{length, get_or, drop}
use borrow.Author.Tests.{eqb-true, eqb-false, ltb-true, ltb-false}
use Rattle.assignments.specs.Assignment.{cost, Assignment, total_from, shown, Best}
use Rattle.assignments.specs.Sets.{no_total, has, offers, unpicked, pick, least_from, vessel, vessels_from, least_total, vessels, Priced}
use Rattle.assignments.proofs.Sets.{has_empty, has-added, has_other}
use Rattle.assignments.proofs.Picks.{pick_cap, pick_le, Picked, picked, Free, offers-free, free-offers}

-- the k crews from crew i on get vessels that are open, not in s, and not used by the crews before
abbrev Fair : List (List ℕ) → ℕ → (ℕ → ℕ) → ℕ → ℕ → ℕ → Type 0
Fair t n f zero i s = Unit
Fair t n f (suc k) i s = (f i < n) × Free (cost t i) s (f i) × Fair t n f k (suc i) (s + 2 ^ f i)

-- they get the lowest vessels that keep the least total
abbrev Lowest : List (List ℕ) → ℕ → (ℕ → ℕ) → ℕ → ℕ → ℕ → Type 0
Lowest t n f zero i s = Unit
Lowest t n f (suc k) i s = (f i ≡ vessel t n k i s) × Lowest t n f k (suc i) (s + 2 ^ f i)

head_at : (xs : List ℕ) (i x : ℕ) (ys : List ℕ) → drop i xs ≡ x ∷ ys → get_or xs i 0 ≡ x
head_at [] zero x ys e = cc
head_at [] (suc i) x ys e = cc
head_at (y ∷ xs) zero x ys e = cc
head_at (y ∷ xs) (suc i) x ys e = head_at xs i x ys e

tail_at : (xs : List ℕ) (i x : ℕ) (ys : List ℕ) → drop i xs ≡ x ∷ ys → drop (suc i) xs ≡ ys
tail_at [] zero x ys e = cc
tail_at [] (suc i) x ys e = cc
tail_at (y ∷ xs) zero x ys e = cc
tail_at (y ∷ xs) (suc i) x ys e = tail_at xs i x ys e

-- vessels that are counted from 1, at the front of a list
pub from_one : (vs ys : List ℕ) (i : ℕ) → i < length vs → 0 < get_or (map suc vs ++ ys) i 0
from_one [] ys i h = absurd (omega arith)
from_one (v ∷ vs) ys zero h = omega arith
from_one (v ∷ vs) ys (suc i) h = from_one vs ys i (omega arith)

module _ (t : List (List ℕ)) (n : ℕ) where
  pub length-vessels : (k i s : ℕ) → length (vessels_from t n k i s) ≡ k
  unfolding vessels_from
  length-vessels zero i s = refl
  length-vessels (suc k) i s = ap suc (length-vessels k (suc i) (s + 2 ^ vessel t n k i s))

  pub total_cap : (k i s : ℕ) → least_from t n k i s ≤ no_total
  unfolding least_from
  total_cap zero i s = omega arith
  total_cap (suc k) i s = pick_cap (offers (cost t i) (least_from t n k (suc i)) s) unpicked n 0

  -- the least is at most what vessel j comes to
  least_at : (k i s j : ℕ) → j < n → Free (cost t i) s j → least_from t n (suc k) i s ≤ cost t i j + least_from t n k (suc i) (s + 2 ^ j)
  unfolding least_from
  least_at k i s j h w =
      let p = cost t i in
      let rest = least_from t n k (suc i) in
      omega (arith, pick_le (offers p rest s) unpicked n 0 j (omega arith) (omega arith), offers-free p rest s j w)

  no_less : (f : ℕ → ℕ) (k i s : ℕ) → Fair t n f k i s → least_from t n k i s ≤ total_from t f k i
  unfolding least_from total_from
  no_less f zero i s w = omega arith
  no_less f (suc k) i s w = omega (arith, least_at k i s (f i) w.0 w.1, no_less f k (suc i) (s + 2 ^ f i) w.2)

  -- the vessel taken: it is free, keeps the least, and no lower one does
  pub record Taken (k i s j : ℕ) : Type 0 where
    pub inside : j < n
    pub free : Free (cost t i) s j
    pub keeps : cost t i j + least_from t n k (suc i) (s + 2 ^ j) ≡ least_from t n (suc k) i s
    pub lower : (d : ℕ) → d < j → Free (cost t i) s d → least_from t n (suc k) i s < cost t i d + least_from t n k (suc i) (s + 2 ^ d)

  pub taken : (k i s : ℕ) → least_from t n (suc k) i s < no_total → Taken k i s (vessel t n k i s)
  unfolding least_from vessel
  taken k i s h =
      let p = cost t i in
      let rest = least_from t n k (suc i) in
      let w : Picked (offers p rest s) n 0 (pick (offers p rest s) n) = picked (offers p rest s) unpicked n 0 h in
      let v : Free p s (vessel t n k i s) = free-offers p rest s (vessel t n k i s) (omega (arith, w.is, h)) in
      record {
        inside = omega (arith, w.high);
        free = v;
        keeps = sym (offers-free p rest s (vessel t n k i s) v) ∙ w.is;
        lower = λ d l u. omega (arith, w.before d (omega arith) l, offers-free p rest s d u);
      }

  taken_as : (f : ℕ → ℕ) (k i s : ℕ) → least_from t n (suc k) i s < no_total → f i ≡ vessel t n k i s → Taken k i s (f i)
  taken_as f k i s h e = rw e (taken k i s h)

  attained : (f : ℕ → ℕ) (k i s : ℕ) → least_from t n k i s < no_total → Lowest t n f k i s →
      Fair t n f k i s × (total_from t f k i ≡ least_from t n k i s)
  unfolding least_from total_from
  attained f zero i s h w = (tt, refl)
  attained f (suc k) i s h w =
      let v = taken_as f k i s h w.0 in
      let r = attained f k (suc i) (s + 2 ^ f i) (omega (arith, v.keeps)) w.1 in
      ((v.inside, v.free, r.0), omega (arith, v.keeps, r.1))

  -- an assignment of the least total that is lower at some crew was higher at one before
  none_before : (f g : ℕ → ℕ) (k i s : ℕ) → least_from t n k i s < no_total → Lowest t n g k i s → Fair t n f k i s →
      total_from t f k i ≡ least_from t n k i s → (c : ℕ) → i ≤ c → c < i + k → f c < g c → ((d : ℕ) → i ≤ d → d < c → f d ≡ g d) → ⊥
  unfolding total_from
  none_before f g zero i s h w r e c l u b same = omega arith
  none_before f g (suc k) i s h w r e c l u b same =
      go (eqb c i) refl
      (λ o x y z. none_before f g k (suc i) (s + 2 ^ g i) x w.1 y z c o (omega arith) b (λ d a. same d (omega arith)))
    where
      go : (q : Bool) → eqb c i ≡ q →
          (suc i ≤ c → least_from t n k (suc i) (s + 2 ^ g i) < no_total → Fair t n f k (suc i) (s + 2 ^ g i) →
          total_from t f k (suc i) ≡ least_from t n k (suc i) (s + 2 ^ g i) → ⊥) → ⊥
      go true q again =
          let v = taken_as g k i s h w.0 in
          let lower : f i < g i = rw (eqb-true c i q) at b in
          omega (arith, e, v.lower (f i) lower r.1, no_less f k (suc i) (s + 2 ^ f i) r.2)
      go false q again =
          let v = taken_as g k i s h w.0 in
          let ne = eqb-false c i q in
          let m : f i ≡ g i = same i (omega arith) (omega arith) in
          let x : total_from t f k (suc i) ≡ least_from t n k (suc i) (s + 2 ^ g i) = omega (arith, e, v.keeps, ap (cost t i) m) in
          again (omega arith) (omega (arith, v.keeps)) (rw m at r.2) x

  -- a vessel in the set is given to no crew
  kept_out : (f : ℕ → ℕ) (k i s j : ℕ) → Fair t n f k i s → has j s ≡ 1 → (c : ℕ) → i ≤ c → c < i + k → f c ≡ j → ⊥
  kept_out f zero i s j w h c l u e = omega arith
  kept_out f (suc k) i s j w h c l u e =
      let ne : j ≡ f i → ⊥ = λ q. omega (arith, h, ap (λ x. has x s) q, w.1.unused) in
      let up : has j (s + 2 ^ f i) ≡ 1 = has_other (f i) j s w.1.unused ne ∙ h in
      go (eqb c i) refl (λ o. kept_out f k (suc i) (s + 2 ^ f i) j w.2 up c o (omega arith) e) ne
    where
      go : (q : Bool) → eqb c i ≡ q → (suc i ≤ c → ⊥) → (j ≡ f i → ⊥) → ⊥
      go true q again ne = ne (sym e ∙ ap f (eqb-true c i q))
      go false q again ne = let d = eqb-false c i q in again (omega arith)

  -- what is known of crew c, where the crews end at e
  record Placed (f : ℕ → ℕ) (e c : ℕ) : Type 0 where
    inside : f c < n
    priced : 0 < cost t c (f c)
    alone : (d : ℕ) → c < d → d < e → f d ≡ f c → ⊥

  placed : (f : ℕ → ℕ) (e k i s : ℕ) → i + k ≡ e → Fair t n f k i s → (c : ℕ) → i ≤ c → c < e → Placed f e c
  placed f e zero i s z w c l u = absurd (omega arith)
  placed f e (suc k) i s z w c l u = go (eqb c i) refl (λ o. placed f e k (suc i) (s + 2 ^ f i) (omega arith) w.2 c o u)
    where
      here : Placed f e i
      here = record {
        inside = w.0;
        priced = w.1.priced;
        alone = λ d a b. kept_out f k (suc i) (s + 2 ^ f i) (f i) w.2 (has-added (f i) s w.1.unused) d (omega arith) (omega arith);
      }

      go : (q : Bool) → eqb c i ≡ q → (suc i ≤ c → Placed f e c) → Placed f e c
      go true q again = rw (eqb-true c i q) here
      go false q again = let ne = eqb-false c i q in again (omega arith)

  valid_fair : (f : ℕ → ℕ) (m k i s : ℕ) → i + k ≡ m → Assignment t m n f → ((c : ℕ) → i ≤ c → c < m → has (f c) s ≡ 0) → Fair t n f k i s
  valid_fair f m zero i s e v h = tt
  valid_fair f m (suc k) i s e v h =
      let u = h i (omega arith) (omega arith) in (
        v.inside i (omega arith),
        record { unused = u; priced = v.open_pairing i (omega arith) },
        valid_fair f m k (suc i) (s + 2 ^ f i) (omega arith) v
            (λ c l b. has_other (f i) (f c) s u (λ q. let z = v.apart c i (omega arith) (omega arith) q in omega arith) ∙ h c (omega arith) (omega arith)),
      )

  fair_valid : (f : ℕ → ℕ) (m : ℕ) → Fair t n f m 0 0 → Assignment t m n f
  fair_valid f m w = record {
    inside = λ i h. (at i h).inside;
    open_pairing = λ i h. (at i h).priced;
    apart = λ i k a b e. go i k a b e (ltb i k) (ltb k i) refl refl;
  }
    where
      at : (c : ℕ) → c < m → Placed f m c
      at c u = placed f m m 0 0 (omega arith) w c (omega arith) u

      go : (i k : ℕ) → i < m → k < m → f i ≡ f k → (x y : Bool) → ltb i k ≡ x → ltb k i ≡ y → i ≡ k
      go i k a b e true y p q = absurd ((at i a).alone k (ltb-true i k p) b (sym e))
      go i k a b e false true p q = absurd ((at k b).alone i (ltb-true k i q) a e)
      go i k a b e false false p q = omega (arith, ltb-false i k p, ltb-false k i q)

  valid_start : (f : ℕ → ℕ) (m : ℕ) → Assignment t m n f → Fair t n f m 0 0
  valid_start f m v = valid_fair f m m 0 0 (omega arith) v (λ c l u. has_empty (f c))

  -- a list with the vessels at its front shows the lowest
  shown-lowest : (xs ys : List ℕ) (k i s : ℕ) → drop i xs ≡ map suc (vessels_from t n k i s) ++ ys → Lowest t n (shown xs) k i s
  unfolding vessels_from
  shown-lowest xs ys zero i s e = tt
  shown-lowest xs ys (suc k) i s e =
      let h : shown xs i ≡ vessel t n k i s = ap (λ x. x - 1) (head_at xs i _ _ e) ∙ omega arith in
      let r : drop (suc i) xs ≡ map suc (vessels_from t n k (suc i) (s + 2 ^ shown xs i)) ++ ys = rw h (tail_at xs i _ _ e) in
      (h, shown-lowest xs ys k (suc i) (s + 2 ^ shown xs i) r)

  -- what is shown is the best assignment, at the least total
  pub shown-best : (m : ℕ) (ys : List ℕ) → least_total t m n < no_total →
      Best t m n (shown (map suc (vessels t m n) ++ ys)) (least_total t m n)
  shown-best m ys h =
      let f = shown (map suc (vessels t m n) ++ ys) in
      let low = shown-lowest (map suc (vessels t m n) ++ ys) ys m 0 0 refl in
      let a = attained f m 0 0 h low in
      record {
        assignment = fair_valid f m a.0;
        priced = a.1;
        least = λ g v. no_less g m 0 0 (valid_start g m v);
        first = λ g v e b.
            none_before g f m 0 0 h low (valid_start g m v) e b.crew (omega arith) (omega (arith, b.within)) b.lower
            (λ d l u. b.same d u);
      }

total-small : (t : List (List ℕ)) (f : ℕ → ℕ) (m k i : ℕ) → i + k ≡ m → ((c : ℕ) → c < m → cost t c (f c) ≤ 1000000) → total_from t f k i ≤ 1000000 * k
unfolding total_from
total-small t f m zero i e h = omega arith
total-small t f m (suc k) i e h = omega (arith, h i (omega arith), total-small t f m k (suc i) (omega arith) h)

-- there is no total exactly where there is no assignment
pub none_valid : (t : List (List ℕ)) (m n : ℕ) → m ≤ 16 → Priced t m n → no_total ≤ least_total t m n → (f : ℕ → ℕ) → Assignment t m n f → ⊥
none_valid t m n l p h f v =
    omega (arith, no_less t n f m 0 0 (valid_start t n f m v), total-small t f m m 0 (omega arith) (λ c u. p c (f c) u (v.inside c u)))

pub valid_none : (t : List (List ℕ)) (m n : ℕ) → ((f : ℕ → ℕ) → Assignment t m n f → ⊥) → no_total ≤ least_total t m n
valid_none t m n never = go (ltb (least_total t m n) no_total) refl
  where
    go : (b : Bool) → ltb (least_total t m n) no_total ≡ b → no_total ≤ least_total t m n
    go true q = absurd (never _ (shown-best t n m [] (ltb-true (least_total t m n) no_total q)).assignment)
    go false q = ltb-false (least_total t m n) no_total q
