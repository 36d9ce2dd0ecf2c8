-- No list has more different members than elements.
use mathlib.Core.Path.{◌≡◌, refl}
use mathlib.Core.Bool.{Bool, true, false, ◌||◌}
use mathlib.Core.List.{List, [], ◌∷◌}
use Prim.Native.Nat.{ℕ, zero, suc, ◌+◌, ◌≤◌}
use native.Mathlib.Omega.{arith}
use lib.ListN.{length}
use lib.Dec.{eqb}
use borrow.Author.Tests.{eqb-true, ne_eqb}
use Rattle.node.specs.Lists.{on, member, total}
use Rattle.rules.proofs.Sums.{total-zero, total_le, total-add}

-- the first m numbers that are equal to r, and those that are in a list
equal_le : (m r : ℕ) → total m (λ i. on (eqb (suc i) r) 1) ≤ 1
unfolding total
equal_le zero r = omega arith
equal_le (suc m) r = go (eqb (suc m) r) refl (equal_le m r)
  where
    go : (b : Bool) → eqb (suc m) r ≡ b → total m (λ i. on (eqb (suc i) r) 1) ≤ 1 → total m (λ i. on (eqb (suc i) r) 1) + on b 1 ≤ 1
    go true e h =
        let q : suc m ≡ r = eqb-true (suc m) r e in
        omega (arith, total-zero m (λ i. on (eqb (suc i) r) 1) (λ i l. rw (ne_eqb (suc i) r (λ f. omega arith))))
    go false e h = omega arith

pub members_le : (m : ℕ) (rs : List ℕ) → total m (λ i. on (member (suc i) rs) 1) ≤ length rs
unfolding member
members_le m [] = omega (arith, total-zero m (λ i. on (member (suc i) []) 1) (λ i l. refl))
members_le m (r ∷ rs) =
    omega (
      arith,
      members_le m rs,
      equal_le m r,
      total-add m (λ i. on (eqb (suc i) r) 1 + on (member (suc i) rs) 1) (λ i. on (eqb (suc i) r) 1) (λ i. on (member (suc i) rs) 1)
          (λ i l. refl),
      total_le m (λ i. on (eqb (suc i) r || member (suc i) rs) 1) (λ i. on (eqb (suc i) r) 1 + on (member (suc i) rs) 1)
          (λ i l. go (eqb (suc i) r) (member (suc i) rs)),
    )
  where
    go : (a b : Bool) → on (a || b) 1 ≤ on a 1 + on b 1
    go true b = omega arith
    go false b = omega arith
