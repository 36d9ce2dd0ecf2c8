-- The loops over the vessels: at vessel j, what is left to look at gives the whole.
use mathlib.Core.Path.{◌≡◌, refl, sym, ◌∙◌, ap}
use mathlib.Core.List.{List}
use Prim.Native.Nat.{ℕ, zero, suc, ◌+◌, ◌-◌, ◌*◌, ◌^◌, ◌/◌, ◌%◌, ◌≤◌, ◌<◌}
use native.Mathlib.Nat.{div-one, pow-suc, div-div-eq-div-mul, pow-le-pow_right}
use native.Mathlib.Numerals.{add-one}
use native.Mathlib.Omega.{arith}
use lib.ListN.{get_or}
use Rattle.std.specs.Int.Count.{ones, ones_step, ones-le}
use Rattle.assignments.specs.declared.Pick.{Pick}
use Rattle.assignments.specs.Sets.{has, offer, lower, pick_from, count}
use Rattle.assignments.proofs.Sets.{with-below}
use Rattle.vessel_sets.specs.Table.{offers_in, Row, Reach}

-- the vessels of a set of n are the digits that are set
pub ones_count : (n s : ℕ) → s < 2 ^ n → ones s ≡ count n s
unfolding count
ones_count zero s h = omega (arith, ones-le 0 s h)
ones_count (suc n) s h = ones_step s ∙ ap (λ x. s % 2 + x) (ones_count n (s / 2) (omega (arith, pow-suc 2 n)))

-- weights
pub weight_small : (j : ℕ) → j ≤ 16 → 2 ^ j ≤ 65536
weight_small j h = pow-le-pow_right {n = 2} (omega arith) h

pub weight_next : (j w : ℕ) → w ≡ 2 ^ j → w * 2 ≡ 2 ^ (j + 1)
weight_next j w e = rw (add-one, pow-suc 2 j, e)

-- at vessel j: its weight, and the set without the vessels below it
pub record At (n s w rest j : ℕ) : Type 0 where
  pub within : j ≤ n
  pub weighs : w ≡ 2 ^ j
  pub halved : rest ≡ s / 2 ^ j

pub at_start : (n s : ℕ) → At n s 1 s 0
at_start n s = record { within = omega arith; weighs = refl; halved = sym (div-one s) }

module _ (n s w rest j : ℕ) (a : At n s w rest j) (h : j < n) where
  pub at_next : At n s (w * 2) (rest / 2) (j + 1)
  at_next = record {
    within = omega arith;
    weighs = weight_next j w a.weighs;
    halved = rw (a.halved, add-one, pow-suc 2 j) (div-div-eq-div-mul s (2 ^ j) 2);
  }

  module _ (row d : List ℕ) (r : Row row n d s) where
    pub at_small : w ≤ 65536
    at_small = rw a.weighs (weight_small j (omega (arith, r.few)))

    pub at_reach : Reach (get_or row j 0) d s w rest
    unfolding has
    at_reach = record {
      priced = r.priced j h;
      small = omega (arith, at_small, r.set, weight_small n r.few);
      inside = rw (a.weighs, a.halved) (λ e. omega (arith, with-below n j s h e r.set, weight_small n r.few));
      low = r.low;
    }

    pub at-cost : (c : ℕ) → c ≡ offer (rest % 2) (get_or row j 0) (get_or d (s + w) 0) → c ≡ offers_in row d s j
    unfolding has
    at-cost c e = rw (a.weighs, a.halved) at e

-- the vessels left to look at give the pick
module _ (f : ℕ → ℕ) (n : ℕ) where
  pub picking_start : (b : Pick) → pick_from f b (n - 0) 0 ≡ pick_from f b n 0
  picking_start b = let e : n - 0 ≡ n = omega arith in rw e

  pub picking_next : (b p : Pick) (j x : ℕ) → j < n → x ≡ f j → p ≡ lower b x j → pick_from f p (n - (j + 1)) (j + 1) ≡ pick_from f b (n - j) j
  unfolding pick_from
  picking_next b p j x h is next = let e : n - j ≡ suc (n - (j + 1)) = omega arith in rw (next, e, is, add-one j)

  pub picking_end : (b : Pick) (j : ℕ) → n ≤ j → b ≡ pick_from f b (n - j) j
  unfolding pick_from
  picking_end b j h = let e : n - j ≡ 0 = omega arith in rw e
