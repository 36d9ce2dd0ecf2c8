-- The walk: at crew i, the vessels that are left to write give the whole list.
use mathlib.Core.Path.{◌≡◌, refl, sym, ◌∙◌, ap}
use mathlib.Core.List.{List, [], map}
use Prim.Native.Nat.{ℕ, suc, ◌+◌, ◌-◌, ◌*◌, ◌^◌, ◌%◌, ◌≤◌, ◌<◌}
use native.Mathlib.Numerals.{add-one}
use native.Mathlib.Omega.{arith}
use lib.ListN.{length, length-map, get_or, set, length-set}
use lib.Seq.{sets}
use Rattle.std.proofs.lemmas.Nat.{one_shl}
use Rattle.refusals.specs.Refusals.{front}
use Rattle.refusals.proofs.Laws.{front-sets}
use Rattle.assignments.specs.declared.Pick.{Pick}
use Rattle.assignments.specs.Sets.{no_total, unpicked, pick, least_from, vessel, vessels_from, least_total, vessels, count}
use Rattle.assignments.proofs.Sets.{weight_one, with-below, count-with}
use Rattle.assignments.proofs.Picks.{pick_same}
use Rattle.assignments.proofs.Best.{length-vessels, Taken, taken}
use Rattle.vessel_sets.specs.Table.{offers_in, Row, Sized, Filled}
use Rattle.vessel_sets.proofs.Loops.{weight_small}
use Rattle.vessel_sets.proofs.Filling.{offers-left, row_of}

pub record Walking (t : List (List ℕ)) (m n : ℕ) (d old new : List ℕ) (s i : ℕ) : Type 0 where
  pub problem : Sized t m n
  pub table : Filled t m n 0 d
  pub room : m ≤ length old
  pub sized : length new ≡ length old
  pub within : i ≤ m
  pub set : s < 2 ^ n
  pub counted : i ≡ count 16 s
  pub some : least_from t n (m - i) i s < no_total
  pub left : sets new i (map suc (vessels_from t n (m - i) i s)) ≡ sets old 0 (map suc (vessels t m n))

pub walking_start : (t : List (List ℕ)) (m n : ℕ) (d old : List ℕ) → Sized t m n → Filled t m n 0 d → m ≤ length old → least_total t m n < no_total → Walking t m n d old old 0 0
unfolding count
walking_start t m n d old z f r h = let e : m - 0 ≡ m = omega arith in record {
  problem = z;
  table = f;
  room = r;
  sized = refl;
  within = omega arith;
  set = weight_one n;
  counted = refl;
  some = rw e h;
  left = rw e;
}

module _ (t : List (List ℕ)) (m n : ℕ) (d old new : List ℕ) (s i : ℕ) (w : Walking t m n d old new s i) where
  pub walking_place : s < 65536
  walking_place = omega (arith, w.set, weight_small n w.problem.few)

  module _ (h : i < m) where
    pub walking_row : Row (get_or t i []) n d s
    walking_row = row_of t m n w.problem d i s h w.set w.table.low

    more : m - i ≡ suc (m - (i + 1))
    more = omega arith

    -- what the code picks is the vessel of the definition
    module _ (p : Pick) (e : p ≡ pick (offers_in (get_or t i []) d s) n) where
      is-vessel : p.vessel ≡ vessel t n (m - (i + 1)) i s
      unfolding vessel
      is-vessel =
          let up : Filled t m n (suc s) d = record { at = λ u a b. w.table.at u (omega arith) b; low = w.table.low } in
          let same = pick_same _ _ unpicked n 0 (λ c l u. offers-left t m n w.problem d i s w.counted h w.set up c (omega arith)) in
          ap (λ (q : Pick). q.vessel) (e ∙ sym same)

      is-taken : Taken t n (m - (i + 1)) i s p.vessel
      is-taken = rw is-vessel (taken t n (m - (i + 1)) i s (rw more at w.some))

      pub walking_low : p.vessel < 16
      walking_low = omega (arith, is-taken.inside, w.problem.few)

      pub walking_weight : 1 * 2 ^ p.vessel % 2 ^ 64 ≡ 2 ^ p.vessel
      walking_weight = one_shl p.vessel 64 (omega (arith, walking_low))

      pub walking_next : (v : ℕ) → v ≡ 2 ^ p.vessel → Walking t m n d old (set new i (p.vessel + 1)) (s + v) (i + 1)
      unfolding vessels_from
      walking_next v q =
          let u = is-taken.free.unused in
          let rest : least_from t n (m - (i + 1)) (i + 1) (s + v) ≡ least_from t n (m - (i + 1)) (suc i) (s + 2 ^ p.vessel) = rw (q, add-one i) in
          record {
            problem = w.problem;
            table = w.table;
            room = w.room;
            sized = length-set new i (p.vessel + 1) ∙ w.sized;
            within = omega arith;
            set = rw q (with-below n p.vessel s is-taken.inside u w.set);
            counted = rw q (omega (arith, w.counted, count-with 16 p.vessel s walking_low u));
            some = rw rest (omega (arith, is-taken.keeps, rw more at w.some));
            left = rw (q, add-one i, add-one p.vessel) (rw (more, ← is-vessel, add-one i) at w.left);
          }

  pub walking_end : m ≤ i → new ≡ front (map suc (vessels t m n)) old
  unfolding vessels_from
  walking_end h =
      let e : m - i ≡ 0 = omega arith in
      rw e at w.left
      ∙ front-sets (map suc (vessels t m n)) old (omega (arith, length-map (vessels t m n) suc, length-vessels t n m 0 0, w.room))
