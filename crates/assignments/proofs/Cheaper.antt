-- The cheapest of lists of assignments: of two lists one after the other, of lists with one vessel put in front, and of two totals.
use mathlib.Core.Path.{◌≡◌, refl, sym, ap}
use mathlib.Core.Bool.{Bool, true, false, cond}
use mathlib.Core.List.{List, [], ◌∷◌, ◌++◌, map}
use Prim.Native.Nat.{ℕ, ◌+◌, ◌≤◌, ◌<◌}
use native.Mathlib.Omega.{arith}
use lib.Dec.{leb, ltb}
use borrow.Author.Tests.{leb-true, leb-false, le-leb, lt-leb, ltb-true, ltb-false, lt-ltb, le-ltb}
use Rattle.assignments.specs.Cheapest.{Found, nothing, found, cheaper, cheapest}
use Rattle.assignments.specs.Sets.{no_total, found_at}

pub cheaper-nothing : (a : Found) → cheaper a nothing ≡ a
unfolding cheaper
cheaper-nothing nothing = refl
cheaper-nothing (found x xs) = refl

former : (x y : ℕ) (xs ys : List ℕ) → x ≤ y → cheaper (found x xs) (found y ys) ≡ found x xs
unfolding cheaper
former x y xs ys h = ap (λ b. cond b (found x xs) (found y ys)) (le-leb x y h)

latter : (x y : ℕ) (xs ys : List ℕ) → y < x → cheaper (found x xs) (found y ys) ≡ found y ys
unfolding cheaper
latter x y xs ys h = ap (λ b. cond b (found x xs) (found y ys)) (lt-leb x y h)

module _ (x y z : ℕ) (xs ys zs : List ℕ) where
  three : (p q : Bool) → leb x y ≡ p → leb y z ≡ q →
      cheaper (cheaper (found x xs) (found y ys)) (found z zs) ≡ cheaper (found x xs) (cheaper (found y ys) (found z zs))
  three true true p q =
      rw (former x y xs ys (leb-true x y p), former y z ys zs (leb-true y z q), former x y xs ys (leb-true x y p))
      (former x z xs zs (omega (arith, leb-true x y p, leb-true y z q)))
  three true false p q =
      rw (former x y xs ys (leb-true x y p), latter y z ys zs (leb-false y z q))
  three false true p q =
      rw (latter x y xs ys (leb-false x y p), former y z ys zs (leb-true y z q), latter x y xs ys (leb-false x y p))
  three false false p q =
      rw (latter x y xs ys (leb-false x y p), latter y z ys zs (leb-false y z q))
      (sym (latter x z xs zs (omega (arith, leb-false x y p, leb-false y z q))))

pub cheaper_assoc : (a b c : Found) → cheaper (cheaper a b) c ≡ cheaper a (cheaper b c)
unfolding cheaper
cheaper_assoc nothing b c = refl
cheaper_assoc (found x xs) nothing c = refl
cheaper_assoc (found x xs) (found y ys) nothing = cheaper-nothing (cheaper (found x xs) (found y ys))
cheaper_assoc (found x xs) (found y ys) (found z zs) = three x y z xs ys zs (leb x y) (leb y z) refl refl

pub cheapest-joined : (f : List ℕ → ℕ) (us vs : List (List ℕ)) → cheapest f (us ++ vs) ≡ cheaper (cheapest f us) (cheapest f vs)
unfolding cheapest cheaper
cheapest-joined f [] vs = refl
cheapest-joined f (u ∷ us) vs = rw (cheapest-joined f us vs) (sym (cheaper_assoc (found (f u) u) (cheapest f us) (cheapest f vs)))

-- an assignment with a vessel put in front, at its cost
unfoldable pub given : ℕ → ℕ → Found → Found
given c j nothing = nothing
given c j (found x xs) = found (c + x) (j ∷ xs)

given-cheaper : (c j : ℕ) (a b : Found) → given c j (cheaper a b) ≡ cheaper (given c j a) (given c j b)
unfolding given cheaper
given-cheaper c j nothing b = refl
given-cheaper c j (found x xs) nothing = refl
given-cheaper c j (found x xs) (found y ys) = go (leb x y) refl
  where
    go : (p : Bool) → leb x y ≡ p → given c j (cheaper (found x xs) (found y ys)) ≡ cheaper (found (c + x) (j ∷ xs)) (found (c + y) (j ∷ ys))
    go true p = rw (former x y xs ys (leb-true x y p)) (sym (former (c + x) (c + y) (j ∷ xs) (j ∷ ys) (omega (arith, leb-true x y p))))
    go false p = rw (latter x y xs ys (leb-false x y p)) (sym (latter (c + x) (c + y) (j ∷ xs) (j ∷ ys) (omega (arith, leb-false x y p))))

pub cheapest-given : (f g : List ℕ → ℕ) (c j : ℕ) → ((xs : List ℕ) → f (j ∷ xs) ≡ c + g xs) → (xss : List (List ℕ)) →
    cheapest f (map (◌∷◌ j) xss) ≡ given c j (cheapest g xss)
unfolding cheapest given
cheapest-given f g c j h [] = refl
cheapest-given f g c j h (xs ∷ xss) =
    rw (h xs, cheapest-given f g c j h xss) (sym (given-cheaper c j (found (g xs) xs) (cheapest g xss)))

-- an answer by its total
pub found-low : (x : ℕ) (xs : List ℕ) → x < no_total → found_at x xs ≡ found x xs
found-low x xs h = rw (lt-ltb x no_total h)

pub found_high : (x : ℕ) (xs : List ℕ) → no_total ≤ x → found_at x xs ≡ nothing
found_high x xs h = rw (le-ltb x no_total h)

-- of two, the latter only if its total is less
module _ (x y : ℕ) (xs ys : List ℕ) where
  pub keeps_former : x ≤ y → cheaper (found_at x xs) (found_at y ys) ≡ found_at x xs
  keeps_former h = go (ltb x no_total) (ltb y no_total) refl refl
    where
      go : (p q : Bool) → ltb x no_total ≡ p → ltb y no_total ≡ q → cheaper (found_at x xs) (found_at y ys) ≡ found_at x xs
      go p false e f = rw (found_high y ys (ltb-false y no_total f)) (cheaper-nothing (found_at x xs))
      go true true e f = rw (found-low x xs (ltb-true x no_total e), found-low y ys (ltb-true y no_total f)) (former x y xs ys h)
      go false true e f = absurd (omega (arith, ltb-false x no_total e, ltb-true y no_total f))

  pub takes_latter : y < x → cheaper (found_at x xs) (found_at y ys) ≡ found_at y ys
  unfolding cheaper
  takes_latter h = go (ltb x no_total) (ltb y no_total) refl refl
    where
      go : (p q : Bool) → ltb x no_total ≡ p → ltb y no_total ≡ q → cheaper (found_at x xs) (found_at y ys) ≡ found_at y ys
      go false q e f = rw (found_high x xs (ltb-false x no_total e))
      go true true e f = rw (found-low x xs (ltb-true x no_total e), found-low y ys (ltb-true y no_total f)) (latter x y xs ys h)
      go true false e f = absurd (omega (arith, ltb-true x no_total e, ltb-false y no_total f))
