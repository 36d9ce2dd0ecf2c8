-- A list that rises, as a loop meets it: what is left of it from a place on, a step further and at its end.
use mathlib.Core.Path.{◌≡◌, refl}
use mathlib.Core.Bool.{Bool, true, false, cond, ◌&&◌, ◌||◌}
use mathlib.Core.List.{List, [], ◌∷◌, map}
use Prim.Native.Nat.{ℕ, zero, suc, ◌+◌, ◌≤◌, ◌<◌}
use native.Mathlib.Omega.{arith}
use Rattle.std.proofs.lemmas.List.{map-id}
use lib.Dec.{leb, ltb, eqb, eqb-suc-suc}
use borrow.Author.Tests.{lt-ltb, le-ltb, le-leb, lt-leb, ltb-true, leb-true, ne_eqb, eqb-true}
use lib.ListN.{length, get_or, drop, drop_of_length-le}
use Rattle.node.proofs.Loops.{drop-step}
use Rattle.refusals.specs.Refusals.{fine, fault}
use Rattle.refusals.proofs.Laws.{stops_at, goes_on, passes, fails, both, asked}
use Rattle.node.specs.Lists.{member, keep, from, on}
use Rattle.node.proofs.Members.{and_both}
use Rattle.dutyfile.specs.Faults.{rising, bodies_fault}

module _ (xs : List ℕ) (low high i : ℕ) (inside : i < length xs) where
  pub rising-low : get_or xs i 0 ≤ low → rising low high (drop i xs) ≡ false
  unfolding rising
  rising-low h = rw (drop-step xs i inside) (simp (rising, le-ltb _ _ h))

  pub rising_high : low < get_or xs i 0 → high < get_or xs i 0 → rising low high (drop i xs) ≡ false
  unfolding rising
  rising_high g h = rw (drop-step xs i inside) (simp (rising, lt-ltb _ _ g, lt-leb _ _ h))

  pub rising_step : low < get_or xs i 0 → get_or xs i 0 ≤ high → rising low high (drop i xs) ≡ rising (get_or xs i 0) high (drop (i + 1) xs)
  unfolding rising
  rising_step g h = rw (drop-step xs i inside) (simp (rising, lt-ltb _ _ g, le-leb _ _ h))

pub rising-end : (xs : List ℕ) (low high i : ℕ) → length xs ≤ i → rising low high (drop i xs) ≡ true
unfolding rising
rising-end xs low high i h = rw (drop_of_length-le xs h)

-- numbers that stand in their list as they are
pub as_they_are : (r : Bool) (m : ℕ) (xs : List ℕ) → r ≡ rising 0 m (map (λ x. x) xs) → r ≡ rising 0 m xs
as_they_are r m xs e = rw (map-id xs) at e

-- the bodies one by one
pub bodies-stop : (m : ℕ) (b : List ℕ) (bs : List (List ℕ)) → rising 0 m b ≡ false → bodies_fault m (b ∷ bs) ≡ fault 9
unfolding bodies_fault
bodies-stop m b bs e = stops_at 9 _ (fails 9 e)

pub bodies_next : (m : ℕ) (b : List ℕ) (bs : List (List ℕ)) → rising 0 m b ≡ true → bodies_fault m (b ∷ bs) ≡ bodies_fault m bs
unfolding bodies_fault
bodies_next m b bs e = goes_on _ (passes 9 e)

pub bodies-none : (m : ℕ) → bodies_fault m [] ≡ fine
unfolding bodies_fault
bodies-none m = refl

-- the parts of a test that passes
pub rising_cons : (low high x : ℕ) (xs : List ℕ) → rising low high (x ∷ xs) ≡ true → (low < x) × (x ≤ high) × (rising x high xs ≡ true)
unfolding rising
rising_cons low high x xs e =
    let a = and_both {a = ltb low x} {b = leb x high && rising x high xs} e in
    let b = and_both {a = leb x high} {b = rising x high xs} a.1 in
    (ltb-true low x a.0, leb-true x high b.0, b.1)

-- of a rising list: each place is within the bounds, no number up to the lower one is there, and it is no longer than its range
pub rising-at : (low high : ℕ) (xs : List ℕ) (k : ℕ) → rising low high xs ≡ true → k < length xs → (low < get_or xs k 0) × (get_or xs k 0 ≤ high)
rising-at low high [] k e h = absurd (omega arith)
rising-at low high (x ∷ xs) zero e h = let c = rising_cons low high x xs e in (c.0, c.1)
rising-at low high (x ∷ xs) (suc k) e h =
    let c = rising_cons low high x xs e in
    let r = rising-at x high xs k c.2 (omega arith) in
    (omega (arith, c.0, r.0), r.1)

pub rising_none : (low high : ℕ) (xs : List ℕ) (a : ℕ) → rising low high xs ≡ true → a ≤ low → member a xs ≡ false
unfolding member
rising_none low high [] a e h = refl
rising_none low high (x ∷ xs) a e h =
    let c = rising_cons low high x xs e in
    simp (ne_eqb a x (λ q. omega (arith, c.0, q)), rising_none x high xs a c.2 (omega (arith, c.0)))

pub rising-short : (low high : ℕ) (xs : List ℕ) → rising low high xs ≡ true → low ≤ high → low + length xs ≤ high
rising-short low high [] e h = omega arith
rising-short low high (x ∷ xs) e h =
    let c = rising_cons low high x xs e in
    omega (arith, c.0, rising-short x high xs c.2 c.1)

pub rising_wider : (low high top : ℕ) (xs : List ℕ) → rising low high xs ≡ true → high ≤ top → rising low top xs ≡ true
unfolding rising
rising_wider low high top [] e h = refl
rising_wider low high top (x ∷ xs) e h =
    let c = rising_cons low high x xs e in
    simp (lt-ltb low x c.0, le-leb x top (omega (arith, c.1)), rising_wider x high top xs c.2 h)

-- bodies that pass: each rises, and so does the empty list that stands for any other
pub bodies-rise : (m : ℕ) (bs : List (List ℕ)) (j : ℕ) → bodies_fault m bs ≡ fine → rising 0 m (get_or bs j []) ≡ true
unfolding bodies_fault rising
bodies-rise m [] j e = refl
bodies-rise m (b ∷ bs) zero e = asked (rising 0 m b) 9 (both _ _ e).0
bodies-rise m (b ∷ bs) (suc j) e = bodies-rise m bs j (both _ _ e).1

-- columns of a matrix, numbered from 1, rise
pub numbers-rise : (t : ℕ → Bool) (n k low : ℕ) → low ≤ k → rising low (k + n) (map suc (keep t (from n k))) ≡ true
unfolding keep from rising
numbers-rise t zero k low l = refl
numbers-rise t (suc n) k low l =
    let s : suc k + n ≡ k + suc n = omega arith in
    go (t k) (keep t (from n (suc k))) (rw s at (numbers-rise t n (suc k) (suc k) (omega arith)))
    (rw s at (numbers-rise t n (suc k) low (omega (arith, l))))
  where
    go : (b : Bool) (rest : List ℕ) → rising (suc k) (k + suc n) (map suc rest) ≡ true → rising low (k + suc n) (map suc rest) ≡ true
        → rising low (k + suc n) (map suc (cond b (k ∷ rest) rest)) ≡ true
    go true rest h i = simp (lt-ltb low (suc k) (omega (arith, l)), le-leb (suc k) (k + suc n) (omega arith), h)
    go false rest h i = i

pub numbers-member : (j : ℕ) (js : List ℕ) → member (suc j) (map suc js) ≡ member j js
unfolding member
numbers-member j [] = refl
numbers-member j (x ∷ xs) = rw (eqb-suc-suc j x, numbers-member j xs)

-- a number among those after y, or y itself
pub member-suc : (y high : ℕ) (xs : List ℕ) (j v : ℕ) → rising (suc y) high xs ≡ true →
    on (member (suc j) (suc y ∷ xs)) v ≡ on (eqb j y) v + on (member (suc j) xs) v
unfolding member
member-suc y high xs j v e =
    rw (eqb-suc-suc j y) (either (eqb j y) (member (suc j) xs) (λ q. rising_none (suc y) high xs (suc j) e (omega (arith, eqb-true j y q))))
  where
    either : (a b : Bool) → (a ≡ true → b ≡ false) → on (a || b) v ≡ on a v + on b v
    either true b h = rw (h refl) (omega arith)
    either false b h = omega arith
