-- Sums that differ at one place: a choice with one more column, and values of which one changes.
use mathlib.Core.Path.{◌≡◌, refl}
use mathlib.Core.Bool.{Bool, true, false}
use Prim.Native.Nat.{ℕ, ◌+◌, ◌<◌}
use native.Mathlib.Omega.{arith}
use borrow.Author.Tests.{eqb-true, eqb-false}
use lib.Dec.{eqb}
use Rattle.node.specs.Lists.{on, total}
use Rattle.rules.proofs.Sums.{total-add, total-at, total_cong}
use Rattle.verify.proofs.Totals.{Joins}

pub total_joins : (X Y : ℕ → Bool) (j n : ℕ) (f : ℕ → ℕ) → Joins X Y j → j < n → total n (λ k. on (Y k) (f k)) ≡ total n (λ k. on (X k) (f k)) + f j
total_joins X Y j n f w h =
    omega (
      arith,
      total-at n j f h,
      total-add n (λ k. on (Y k) (f k)) (λ k. on (X k) (f k)) (λ k. on (eqb k j) (f k)) (λ k l. go k (eqb k j) refl),
    )
  where
    go : (k : ℕ) (t : Bool) → eqb k j ≡ t → on (Y k) (f k) ≡ on (X k) (f k) + on t (f k)
    go k true e = rw (eqb-true k j e, w.out, w.in') (omega arith)
    go k false e = rw (w.others k (eqb-false k j e)) (omega arith)

pub total_except : (m i : ℕ) (f g : ℕ → ℕ) → i < m → ((k : ℕ) → (k ≡ i → ⊥) → f k ≡ g k) → total m f + g i ≡ total m g + f i
total_except m i f g h e =
    omega (
      arith,
      total-at m i f h,
      total-at m i g h,
      total-add m (λ k. f k + on (eqb k i) (g k)) f (λ k. on (eqb k i) (g k)) (λ k l. refl),
      total-add m (λ k. g k + on (eqb k i) (f k)) g (λ k. on (eqb k i) (f k)) (λ k l. refl),
      total_cong m (λ k. f k + on (eqb k i) (g k)) (λ k. g k + on (eqb k i) (f k)) (λ k l. go k (eqb k i) refl),
    )
  where
    go : (k : ℕ) (t : Bool) → eqb k i ≡ t → f k + on t (g k) ≡ g k + on t (f k)
    go k true q = omega arith
    go k false q = omega (arith, e k (eqb-false k i q))
