-- Numbers from 1 to n, as lists lend them, are those of columns below n; and lists read two places at a time.
use mathlib.Core.Path.{◌≡◌, refl}
use mathlib.Core.Bool.{Bool, true, false, false≢true}
use mathlib.Core.List.{List, [], ◌∷◌}
use mathlib.Core.Logic.{⊎_elim}
use Prim.Native.Nat.{ℕ, suc, ◌+◌, ◌-◌, ◌≤◌, ◌<◌}
use native.Mathlib.Omega.{arith}
use lib.ListN.{length, get_or, drop, drop_of_length-le}
use lib.Dec.{ltb}
use borrow.Author.Tests.{ltb-true, ltb-false}
use Rattle.node.specs.Lists.{member}
use Rattle.rules.specs.Pairs.{pairs_of, Each}
use Rattle.rules.specs.Requests.{columns_of}
use Rattle.node.proofs.Members.{member-cases}
use Rattle.node.proofs.Loops.{drop-step}

-- each is from 1 to n
abbrev pub Numbers : ℕ → List ℕ → Type 0
Numbers n js = (k : ℕ) → k < length js → (1 ≤ get_or js k 0) × (get_or js k 0 ≤ n)

pub numbers-inside : (n : ℕ) (js : List ℕ) → Numbers n js → (j : ℕ) → member j (columns_of js) ≡ true → j < n
unfolding member
numbers-inside n [] h j m = absurd (false≢true m)
numbers-inside n (x ∷ xs) h j m =
    ⊎_elim (λ e. omega (arith, e, (h 0 (omega arith)).0, (h 0 (omega arith)).1))
    (numbers-inside n xs (λ k l. h (suc k) (omega arith)) j) (member-cases j (x - 1) (columns_of xs) m)

pub numbers-pairs : (n : ℕ) (js : List ℕ) → Numbers n js → Each (λ q. (q.first < n) × (q.second < n)) (pairs_of js)
unfolding pairs_of
numbers-pairs n [] h = tt
numbers-pairs n (x ∷ []) h = tt
numbers-pairs n (x ∷ (y ∷ ys)) h = (
  (omega (arith, (h 0 (omega arith)).0, (h 0 (omega arith)).1), omega (arith, (h 1 (omega arith)).0, (h 1 (omega arith)).1)),
  numbers-pairs n ys (λ k l. h (suc (suc k)) (omega arith)),
)

-- what is left of a list from a place on, with the next two places, and where there are not two
pub drop-two : (l : List ℕ) (k : ℕ) → k + 1 < length l → drop k l ≡ get_or l k 0 ∷ (get_or l (k + 1) 0 ∷ drop (k + 2) l)
drop-two l k h =
    let two : k + 1 + 1 ≡ k + 2 = omega arith in
    rw (drop-step l k (omega arith), drop-step l (k + 1) h, two)

pub drop-few : (P : List ℕ → Type 0) (l : List ℕ) (k : ℕ) → length l ≤ k + 1 → P [] → ((x : ℕ) → P (x ∷ [])) → P (drop k l)
drop-few P l k h none one = go (ltb k (length l)) refl
  where
    go : (b : Bool) → ltb k (length l) ≡ b → P (drop k l)
    go true e = rw (drop-step l k (ltb-true k (length l) e), drop_of_length-le l h) (one (get_or l k 0))
    go false e = rw (drop_of_length-le l (ltb-false k (length l) e)) none

-- a node has a place for each of them
pub numbers-low : (n : ℕ) (js : List ℕ) → Numbers n js → n ≤ 256 → Numbers 256 js
numbers-low n js h w k l = ((h k l).0, omega (arith, (h k l).1))
