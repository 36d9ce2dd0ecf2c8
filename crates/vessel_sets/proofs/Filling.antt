-- Filling the table downwards: each set needs only sets with one vessel more, which are greater numbers.
use mathlib.Core.Path.{◌≡◌, refl, sym, ◌∙◌, ap}
use mathlib.Core.Bool.{Bool, true, false}
use mathlib.Core.List.{List, []}
use Prim.Native.Nat.{ℕ, zero, suc, ◌+◌, ◌-◌, ◌^◌, ◌≤◌, ◌<◌}
use native.Mathlib.Omega.{arith}
use lib.Dec.{eqb}
use Rattle.std.specs.Int.Count.{ones}
use lib.ListN.{length, get_or, set, length-set, replicate, length-replicate}
use lib.Seq.{get_or-set_same, get_or-set_other}
use borrow.Author.Tests.{eqb-true, eqb-false}
use Rattle.assignments.specs.declared.Pick.{Pick}
use Rattle.assignments.specs.Assignment.{cost}
use Rattle.assignments.specs.Sets.{no_total, offers, unpicked, pick, least_from, count}
use Rattle.assignments.proofs.Sets.{weight_one, with-below, count-with}
use Rattle.assignments.proofs.Picks.{pick_same, offers-same}
use Rattle.assignments.proofs.Best.{total_cap}
use Rattle.vessel_sets.specs.Table.{offers_in, Low, Row, Sized, least_left, Filled}
use Rattle.vessel_sets.proofs.Loops.{ones_count, weight_small}

-- a table of zeros
zeros-low : (n : ℕ) → Low (replicate n 0)
zeros-low zero u = omega arith
zeros-low (suc n) zero = omega arith
zeros-low (suc n) (suc u) = zeros-low n u

pub zeros : (n : ℕ) → (length {A = ℕ} (replicate n 0) ≡ n) × Low (replicate n 0)
zeros n = (length-replicate n 0, zeros-low n)

module _ (t : List (List ℕ)) (m n : ℕ) (z : Sized t m n) (d : List ℕ) where
  -- the table stands for the rest after a vessel
  pub offers-left : (i u : ℕ) → i ≡ count 16 u → i < m → u < 2 ^ n → Filled t m n (suc u) d → (j : ℕ) → j < n →
      offers (cost t i) (least_from t n (m - (i + 1)) (suc i)) u j ≡ offers_in (get_or t i []) d u j
  unfolding least_left
  offers-left i u e h b w j l =
      offers-same (cost t i) (least_from t n (m - (i + 1)) (suc i)) (λ x. get_or d x 0) u j
      (λ q.
      let c : count 16 (u + 2 ^ j) ≡ suc i = count-with 16 j u (omega (arith, z.few)) q ∙ ap suc (sym e) in
      let k : m - suc i ≡ m - (i + 1) = omega arith in
      sym (w.at (u + 2 ^ j) (omega (arith, weight_one j)) (with-below n j u l q b) ∙ rw (c, k)))

  pub left-more : (i u : ℕ) → i ≡ count 16 u → i < m → least_left t m n u ≡ least_from t n (suc (m - (i + 1))) i u
  unfolding least_left
  left-more i u e h = let k : m - i ≡ suc (m - (i + 1)) = omega arith in rw (← e, k)

  -- the row that a set's crew reads
  pub row_of : (i u : ℕ) → i < m → u < 2 ^ n → Low d → Row (get_or t i []) n d u
  row_of i u h b low = record { few = z.few; set = b; priced = λ j l. z.priced i j h l; low = low }

-- at set s, the sets from s on are done
pub record Filling (t : List (List ℕ)) (m n : ℕ) (d : List ℕ) (s : ℕ) : Type 0 where
  pub problem : Sized t m n
  pub sized : length d ≡ 65536
  pub within : s ≤ 2 ^ n
  pub filled : Filled t m n s d

pub filling_start : (t : List (List ℕ)) (m n : ℕ) (d : List ℕ) (s : ℕ) → Sized t m n → length d ≡ 65536 → Low d → s ≡ 2 ^ n → Filling t m n d s
filling_start t m n d s z l low e = record {
  problem = z;
  sized = l;
  within = omega arith;
  filled = record { at = λ u a b. absurd (omega arith); low = low };
}

-- the next set down, with the value that belongs there
module _ (t : List (List ℕ)) (m n : ℕ) (d : List ℕ) (s : ℕ) (w : Filling t m n d s) (h : 0 < s) where
  filling_set : (v : ℕ) → v ≡ least_left t m n (s - 1) → Filling t m n (set d (s - 1) v) (s - 1)
  unfolding least_left
  filling_set v e = record {
    problem = w.problem;
    sized = simp length-set w.sized;
    within = omega (arith, w.within);
    filled = record { at = λ u a b. at u a b (eqb u (s - 1)) refl; low = λ u. low u (eqb u (s - 1)) refl };
  }
    where
      inside : s - 1 < length d
      inside = omega (arith, w.sized, w.within, weight_small n w.problem.few)

      at : (u : ℕ) → s - 1 ≤ u → u < 2 ^ n → (q : Bool) → eqb u (s - 1) ≡ q → get_or (set d (s - 1) v) u 0 ≡ least_left t m n u
      at u a b true q = rw (eqb-true u (s - 1) q) (get_or-set_same d (s - 1) v 0 inside ∙ e)
      at u a b false q =
          let ne = eqb-false u (s - 1) q in
          get_or-set_other d (s - 1) u v 0 ne ∙ w.filled.at u (omega arith) b

      low : (u : ℕ) → (q : Bool) → eqb u (s - 1) ≡ q → get_or (set d (s - 1) v) u 0 ≤ no_total
      low u true q = rw (eqb-true u (s - 1) q, get_or-set_same d (s - 1) v 0 inside, e) (total_cap t n _ _ _)
      low u false q = rw (get_or-set_other d (s - 1) u v 0 (eqb-false u (s - 1) q)) (w.filled.low u)

  filling_place : s - 1 < 65536
  filling_place = omega (arith, w.within, weight_small n w.problem.few)

  pub filling_count : ones (s - 1) ≡ count 16 (s - 1)
  filling_count = ones_count 16 (s - 1) filling_place

  module _ (i : ℕ) (e : i ≡ count 16 (s - 1)) where
    module _ (some : i < m) where
      pub filling_row : Row (get_or t i []) n d (s - 1)
      filling_row = row_of t m n w.problem d i (s - 1) some (omega (arith, w.within)) w.filled.low

      pub filling_crew : (p : Pick) → p ≡ pick (offers_in (get_or t i []) d (s - 1)) n → Filling t m n (set d (s - 1) p.cost) (s - 1)
      unfolding least_from
      filling_crew p is =
          let up : Filled t m n (suc (s - 1)) d = record { at = λ u a b. w.filled.at u (omega arith) b; low = w.filled.low } in
          let same = pick_same _ _ unpicked n 0 (λ j l u. offers-left t m n w.problem d i (s - 1) e some (omega (arith, w.within)) up j (omega arith)) in
          filling_set p.cost (ap (λ (q : Pick). q.cost) (is ∙ sym same) ∙ sym (left-more t m n w.problem d i (s - 1) e some))

    -- every crew has its vessel
    pub filling_done : m ≤ i → Filling t m n (set d (s - 1) 0) (s - 1)
    unfolding least_left least_from
    filling_done all = let k : m - i ≡ 0 = omega arith in filling_set 0 (rw (← e, k))

pub filling_end : (t : List (List ℕ)) (m n : ℕ) (d : List ℕ) (s : ℕ) → Filling t m n d s → s ≤ 0 → Filled t m n 0 d
filling_end t m n d s w h = record { at = λ u a b. w.filled.at u (omega arith) b; low = w.filled.low }
