-- A rising list of columns: a sum over the list is the sum over all columns of the choice that it names, since none is named twice.
use Rattle.std.proofs.Common.{◌≡◌, ℕ, zero, suc, ◌+◌, ◌-◌, Bool, true, false, ◌||◌, eqb, List, [], ◌∷◌, sym, refl, arith, eq-eqb, ne_eqb, eqb-true}
use lib.Dec.{eqb-suc-suc}
use Rattle.node.specs.Lists.{member, on, total}
use Rattle.node.specs.Matrix.{named}
use Rattle.rules.proofs.Sums.{total-add, total-at, total-zero}
use Rattle.dutyfile.specs.Faults.{rising}
use Rattle.dutyfile.proofs.Rising.{rising_cons, rising_none}
use Rattle.verify.proofs.Totals.{Joins}

-- a test and another that does not hold beside it
pub on_either : (a b : Bool) (v : ℕ) → (a ≡ true → b ≡ false) → on (a || b) v ≡ on a v + on b v
on_either true b v h = rw (h refl) (omega arith)
on_either false b v h = omega arith

-- the numbers above y of a rising list, and y itself
pub member-suc : (y high : ℕ) (xs : List ℕ) (j v : ℕ) → rising (suc y) high xs ≡ true →
    on (member (suc j) (suc y ∷ xs)) v ≡ on (eqb j y) v + on (member (suc j) xs) v
unfolding member
member-suc y high xs j v e =
    rw (eqb-suc-suc j y) (on_either (eqb j y) (member (suc j) xs) v (λ q. rising_none (suc y) high xs (suc j) e (omega (arith, eqb-true j y q))))

-- a value of the columns, summed over a list of them, numbered from 1
unfoldable pub tally : (ℕ → ℕ) → List ℕ → ℕ
tally f [] = 0
tally f (j ∷ js) = f (j - 1) + tally f js

pub tally-total : (low n : ℕ) (js : List ℕ) (f : ℕ → ℕ) → rising low n js ≡ true → tally f js ≡ total n (λ j. on (member (suc j) js) (f j))
unfolding tally member
tally-total low n [] f e = sym (total-zero n (λ j. 0) (λ k h. refl))
tally-total low n (zero ∷ js) f e = absurd (omega (arith, (rising_cons low n zero js e).0))
tally-total low n (suc y ∷ js) f e =
    let c = rising_cons low n (suc y) js e in
    let z : suc y - 1 ≡ y = omega arith in
    rw z
    (omega (
      arith,
      tally-total (suc y) n js f c.2,
      total-at n y f c.1,
      total-add n (λ j. on (member (suc j) (suc y ∷ js)) (f j)) (λ j. on (eqb j y) (f j)) (λ j. on (member (suc j) js) (f j)) (λ j h. member-suc y n js j (f j) c.2),
    ))

-- the choice that a rising list names, with its first column and without
pub named_joins : (low high y : ℕ) (xs : List ℕ) → rising low high (y ∷ xs) ≡ true → Joins (named xs) (named (y ∷ xs)) (y - 1)
unfolding member
named_joins low high zero xs e = absurd (omega (arith, (rising_cons low high zero xs e).0))
named_joins low high (suc y) xs e =
    let z : suc y - 1 ≡ y = omega arith in
    rw z
    (record {
      out = rising_none (suc y) high xs (suc y) (rising_cons low high (suc y) xs e).2 (omega arith);
      in' = rw (eq-eqb (suc y) (suc y) refl);
      others = λ k ne. rw (eqb-suc-suc k y, ne_eqb k y ne);
    })
