-- Sets of vessels as numbers: a vessel that is added is held, the others stay as they were, and the count grows by 1.
use mathlib.Core.Path.{◌≡◌, refl, sym, ◌∙◌, ap}
use Prim.Native.Nat.{ℕ, zero, suc, ◌+◌, ◌^◌, ◌/◌, ◌%◌, ◌<◌}
use native.Mathlib.Nat.{div-one, zero-div, pow-succ', div-div-eq-div-mul}
use native.Mathlib.Omega.{arith}
use Rattle.assignments.specs.Sets.{has, count}

pub has_empty : (j : ℕ) → has j 0 ≡ 0
unfolding has
has_empty j = rw (zero-div (2 ^ j))

-- a set without its lowest vessel, the others moved down by one
has_first : (s : ℕ) → has 0 s ≡ s % 2
unfolding has
has_first s = rw (div-one s)

has_next : (j s : ℕ) → has (suc j) s ≡ has j (s / 2)
unfolding has
has_next j s = rw (pow-succ' 2 j, ← (div-div-eq-div-mul s 2 (2 ^ j)))

pub weight_one : (j : ℕ) → 0 < 2 ^ j
weight_one zero = omega arith
weight_one (suc j) = omega (arith, weight_one j, pow-succ' 2 j)

half_with : (j s : ℕ) → (s + 2 ^ suc j) / 2 ≡ s / 2 + 2 ^ j
half_with j s = omega (arith, pow-succ' 2 j)

pub has-added : (j s : ℕ) → has j s ≡ 0 → has j (s + 2 ^ j) ≡ 1
has-added zero s h = omega (arith, has_first s, has_first (s + 1))
has-added (suc j) s h =
    rw (has_next j (s + 2 ^ suc j), half_with j s) (has-added j (s / 2) (sym (has_next j s) ∙ h))

pub has_other : (j k s : ℕ) → has j s ≡ 0 → (k ≡ j → ⊥) → has k (s + 2 ^ j) ≡ has k s
has_other zero zero s h d = absurd (d refl)
has_other zero (suc k) s h d =
    has_next k (s + 1) ∙ ap (has k) (omega (arith, has_first s)) ∙ sym (has_next k s)
has_other (suc j) zero s h d = has_first (s + 2 ^ suc j) ∙ omega (arith, pow-succ' 2 j) ∙ sym (has_first s)
has_other (suc j) (suc k) s h d =
    rw (has_next k (s + 2 ^ suc j), half_with j s, has_next k s)
    (has_other j k (s / 2) (sym (has_next j s) ∙ h) (λ e. d (ap suc e)))

-- a set of vessels below n stays one
pub with-below : (n j s : ℕ) → j < n → has j s ≡ 0 → s < 2 ^ n → s + 2 ^ j < 2 ^ n
with-below zero j s l h b = absurd (omega arith)
with-below (suc n) zero s l h b = omega (arith, has_first s, pow-succ' 2 n)
with-below (suc n) (suc j) s l h b =
    omega (
      arith,
      with-below n j (s / 2) (omega arith) (sym (has_next j s) ∙ h) (omega (arith, pow-succ' 2 n)),
      pow-succ' 2 n,
      pow-succ' 2 j,
    )

pub count-with : (n j s : ℕ) → j < n → has j s ≡ 0 → count n (s + 2 ^ j) ≡ suc (count n s)
unfolding count
count-with zero j s l h = absurd (omega arith)
count-with (suc n) zero s l h =
    let e : (s + 1) / 2 ≡ s / 2 = omega (arith, has_first s) in
    rw e (omega (arith, has_first s))
count-with (suc n) (suc j) s l h =
    rw (half_with j s)
    (omega (arith, count-with n j (s / 2) (omega arith) (sym (has_next j s) ∙ h), pow-succ' 2 j))
