-- Sums: of the first numbers of a list, one more at a time; and of the lengths of all parts of a list.
use mathlib.Core.Path.{◌≡◌, refl, ap}
use mathlib.Core.List.{List, [], ◌∷◌, map}
use Prim.Native.Nat.{ℕ, zero, suc, ◌+◌, ◌≤◌, ◌<◌}
use native.Mathlib.Nat.{add-zero}
use native.Mathlib.Numerals.{add-one}
use native.Mathlib.Omega.{arith}
use lib.ListN.{length, get_or, take, drop, length-take, length-drop}
use Rattle.node.specs.Lists.{from, total}
use Rattle.rules.proofs.Sums.{total_cong, total-front}
use Rattle.dutyfile.specs.File.{sum, bodies}
use Rattle.matrix.specs.Build.{size}

sum-suc : (l : List ℕ) (j : ℕ) → j < length l → sum (take (suc j) l) ≡ sum (take j l) + get_or l j 0
unfolding sum
sum-suc [] j h = absurd (omega arith)
sum-suc (x ∷ l) zero h = omega arith
sum-suc (x ∷ l) (suc j) h = omega (arith, sum-suc l j (omega arith))

pub sum_more : (l : List ℕ) (j : ℕ) → j < length l → sum (take (j + 1) l) ≡ sum (take j l) + get_or l j 0
sum_more l j h = rw add-one (sum-suc l j h)

pub sum_take_le : (l : List ℕ) (j : ℕ) → sum (take j l) ≤ sum l
unfolding sum
sum_take_le [] zero = omega arith
sum_take_le [] (suc j) = omega arith
sum_take_le (x ∷ l) zero = omega arith
sum_take_le (x ∷ l) (suc j) = omega (arith, sum_take_le l j)

-- all parts together, by a sum
pub size-map : (f : ℕ → List ℕ) (n k : ℕ) → size (map f (from n k)) ≡ total n (λ i. length (f (k + i)))
unfolding from sum total
size-map f zero k = refl
size-map f (suc n) k = omega (
  arith,
  size-map f n (suc k),
  total-front n (λ i. length (f (k + i))),
  ap (λ (j : ℕ). length (f j)) (add-zero k),
  total_cong n (λ i. length (f (suc k + i))) (λ i. length (f (k + suc i))) (λ i l. ap (λ (j : ℕ). length (f j)) (omega arith)),
)

pub total_size : (bs : List (List ℕ)) → total (length bs) (λ j. length (get_or bs j [])) ≡ size bs
unfolding total sum
total_size [] = refl
total_size (b ∷ bs) = omega (arith, total_size bs, total-front (length bs) (λ j. length (get_or (b ∷ bs) j [])))

-- the row numbers of all bodies
pub bodies-size : (ls ns : List ℕ) → length ns ≡ sum ls → size (bodies ls ns) ≡ sum ls
unfolding bodies sum
bodies-size [] ns h = refl
bodies-size (l ∷ ls) ns h =
    let e : length (take l ns) ≡ l = simp length-take (omega arith) in
    omega (arith, bodies-size ls (drop l ns) (simp length-drop (omega arith)))
