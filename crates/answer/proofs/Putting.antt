-- The columns that are left to look at, written from the present place on, give what all of them give.
use mathlib.Core.Path.{◌≡◌, refl, ap, sym, ◌∙◌}
use mathlib.Core.List.{List, [], ◌∷◌, map}
use Prim.Native.Nat.{ℕ, suc, ◌+◌, ◌-◌, ◌≤◌, ◌<◌}
use native.Mathlib.Nat.{sub-zero}
use native.Mathlib.Numerals.{add-one}
use native.Mathlib.Omega.{arith}
use lib.ListN.{length, get_or, set, length-set, length-map}
use lib.Seq.{sets}
use borrow.Author.Tests.{eq-eqb, ne_eqb}
use lib.Dec.{eqb}
use Rattle.refusals.specs.Refusals.{front}
use Rattle.refusals.proofs.Laws.{front-sets}
use Rattle.node.specs.Lists.{keep, from}
use Rattle.node.proofs.Loops.{from_next}
use Rattle.tally.specs.Tally.{taken_in}
use Rattle.answer.specs.Plan.{PlanRoom}

-- the taken columns from j on
abbrev rest : List ℕ → ℕ → ℕ → List ℕ
rest marks w j = keep (λ j. eqb (get_or marks j 0) 2) (from (w - j) j)

-- at column j, with so many columns written
pub record Putting (marks : List ℕ) (w : ℕ) (plan₀ plan : List ℕ) (count j : ℕ) : Type 0 where
  pub wide : w ≤ 256
  pub room : length (taken_in w marks) ≤ length plan₀
  pub long : length plan ≡ length plan₀
  pub within : j ≤ w
  pub low : count ≤ j
  pub left : sets plan count (map suc (rest marks w j)) ≡ sets plan₀ 0 (map suc (taken_in w marks))
  pub counted : count + length (rest marks w j) ≡ length (taken_in w marks)

pub putting_start : (marks : List ℕ) (w : ℕ) (plan : List ℕ) → PlanRoom marks w (length plan) → Putting marks w plan plan 0 0
putting_start marks w plan h = record {
  wide = h.wide;
  room = h.room;
  long = refl;
  within = omega arith;
  low = omega arith;
  left = rw sub-zero;
  counted = rw sub-zero (omega arith);
}

module _ (marks : List ℕ) (w : ℕ) (plan₀ plan : List ℕ) (count j : ℕ) (k : Putting marks w plan₀ plan count j) where
  module _ (inside : j < w) where
    module _ (h : get_or marks j 0 ≡ 2) where
      found : rest marks w j ≡ j ∷ rest marks w (j + 1)
      unfolding keep
      found = rw (from_next w j inside, eq-eqb (get_or marks j 0) 2 h)

      pub putting_room : count < length plan
      putting_room = omega (arith, k.room, k.long, k.counted, ap length found)

      pub putting_taken : Putting marks w plan₀ (set plan count (j + 1)) (count + 1) (j + 1)
      putting_taken = record {
        wide = k.wide;
        room = k.room;
        long = length-set plan count (j + 1) ∙ k.long;
        within = omega arith;
        low = omega (arith, k.low);
        left = rw (add-one count, add-one j) (sym (ap (λ js. sets plan count (map suc js)) (rw (add-one j) at found)) ∙ k.left);
        counted = omega (arith, k.counted, ap length found);
      }

    pub putting_other : (get_or marks j 0 ≡ 2 → ⊥) → Putting marks w plan₀ plan count (j + 1)
    unfolding keep
    putting_other h =
        let e : rest marks w j ≡ rest marks w (j + 1) = rw (from_next w j inside, ne_eqb (get_or marks j 0) 2 h) in
        record {
          wide = k.wide;
          room = k.room;
          long = k.long;
          within = omega arith;
          low = omega (arith, k.low);
          left = sym (ap (λ js. sets plan count (map suc js)) e) ∙ k.left;
          counted = omega (arith, k.counted, ap length e);
        }

  module _ (h : w ≤ j) where
    none : rest marks w j ≡ []
    unfolding keep from
    none = let e : w - j ≡ 0 = omega arith in rw e

    pub putting_end : (count ≡ length (taken_in w marks)) × (plan ≡ front (map suc (taken_in w marks)) plan₀)
    putting_end = (
      omega (arith, k.counted, ap length none),
      sym (ap (λ js. sets plan count (map suc js)) none) ∙ k.left
          ∙ front-sets (map suc (taken_in w marks)) plan₀ (omega (arith, k.room, length-map (taken_in w marks) suc)),
    )
