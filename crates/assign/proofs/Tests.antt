-- The tests: a test of each element of a front of a list, and what it means that all pass.
use mathlib.Core.Path.{◌≡◌, refl, ap}
use mathlib.Core.Bool.{Bool, true, false, ◌&&◌, and-eq-true_iff}
use mathlib.Core.List.{List}
use lib.ListN.{length, get_or, take, drop}
use Rattle.std.specs.List.{list_all}
use Rattle.std.proofs.Math.Seq.{drop-cons}
use Prim.Native.Nat.{ℕ, zero, suc, ◌+◌, ◌≤◌, ◌<◌}
use native.Mathlib.Omega.{arith}
use lib.Dec.{eqb, leb}
use borrow.Author.Tests.{eqb-true, eqb-false, leb-true, le-leb, lt-leb}
use Rattle.refusals.specs.Refusals.{fine, fault, ask, ◌then◌}
use Rattle.refusals.proofs.Laws.{both, asked}
use Rattle.assignments.specs.Assignment.{cost}
use Rattle.vessel_sets.specs.Table.{Sized}
use Rattle.assign.specs.Answer.{all_of, row_fits, costs_fit, sizes_fault, table_fault}

-- a test of each element of a list's front
module _ {A : Type 0} (test : A → Bool) (d : A) (xs : List A) where
  all_from : (n j : ℕ) → j + n ≤ length xs → list_all test (take n (drop j xs)) ≡ all_of (λ k. test (get_or xs k d)) n j
  unfolding all_of
  all_from zero j h = refl
  all_from (suc n) j h =
      let l : j < length xs = omega arith in
      rw (drop-cons xs j d l) (ap (λ b. test (get_or xs j d) && b) (all_from n (suc j) (omega arith)))

  pub all_front : (n : ℕ) → n ≤ length xs → list_all test (take n xs) ≡ all_of (λ k. test (get_or xs k d)) n 0
  all_front n h = all_from n 0 (omega arith)

all_at : (f : ℕ → Bool) (v j c : ℕ) → all_of f v j ≡ true → j ≤ c → c < j + v → f c ≡ true
unfolding all_of
all_at f zero j c e l u = absurd (omega arith)
all_at f (suc v) j c e l u = go (eqb c j) refl (λ o. all_at f v (suc j) c ((and-eq-true_iff (f j) _).0 e).1 o (omega arith))
  where
    go : (b : Bool) → eqb c j ≡ b → (suc j ≤ c → f c ≡ true) → f c ≡ true
    go true q k = rw (eqb-true c j q) ((and-eq-true_iff (f j) _).0 e).0
    go false q k = let ne = eqb-false c j q in k (omega arith)

-- the sizes pass
pub record Counts (m n : ℕ) : Type 0 where
  pub some : 1 ≤ m
  pub crews : m ≤ 16
  pub vessels : n ≤ 16
  pub fits : m ≤ n

pub counts : (m n : ℕ) → sizes_fault m n ≡ fine → Counts m n
unfolding sizes_fault
counts m n e =
    let a = both _ _ e in
    let b = both _ _ a.1 in
    let c = both _ _ b.1 in
    record {
      some = leb-true 1 m (asked _ 16 a.0);
      crews = leb-true m 16 (asked _ 16 b.0);
      vessels = leb-true n 16 (asked _ 16 c.0);
      fits = leb-true m n (asked _ 16 c.1);
    }

-- all pass
pub sized : (t : List (List ℕ)) (m n places : ℕ) → table_fault t m n places ≡ fine → Sized t m n × (m ≤ places)
unfolding table_fault
sized t m n places e =
    let a = both _ _ e in
    let b = both _ _ a.1 in
    let c = counts m n a.0 in (
      record {
        some = c.some;
        fits = c.fits;
        few = c.vessels;
        priced = λ i j h l.
            let row = all_at (λ i. row_fits (cost t i) n) m 0 i (asked _ 17 b.0) (omega arith) (omega arith) in
            leb-true (cost t i j) 1000000 (all_at (λ j. leb (cost t i j) 1000000) n 0 j row (omega arith) (omega arith));
      },
      leb-true m places (asked _ 10 b.1),
    )

-- the ways out of the tests
module _ (t : List (List ℕ)) (m n places : ℕ) (sizes : sizes_fault m n ≡ fine) where
  pub cost_fails : costs_fit t m n ≡ false → fault 17 ≡ table_fault t m n places
  unfolding table_fault ask ◌then◌
  cost_fails e = rw (sizes, e)

  pub room_fails : costs_fit t m n ≡ true → places < m → fault 10 ≡ table_fault t m n places
  unfolding table_fault ask ◌then◌
  room_fails e h = rw (sizes, e, lt-leb m places h)

  pub all_pass : costs_fit t m n ≡ true → m ≤ places → fine ≡ table_fault t m n places
  unfolding table_fault ask ◌then◌
  all_pass e h = rw (sizes, e, le-leb m places h)
