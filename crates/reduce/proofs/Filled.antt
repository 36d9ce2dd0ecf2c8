-- Costs copied: the places that are left, filled from the costs that are left, give what all of them give.
use mathlib.Core.Path.{◌≡◌, refl, ap, sym, ◌∙◌}
use mathlib.Core.List.{List, map}
use Prim.Native.Nat.{ℕ, ◌+◌, ◌-◌, ◌≤◌, ◌<◌}
use native.Mathlib.Nat.{sub-zero}
use native.Mathlib.Numerals.{add-one}
use native.Mathlib.Omega.{arith}
use lib.IntN.{ℤ, pos}
use lib.ListN.{length, get_or, set, take, drop, length-set, length-map, length-take, drop_of_length-le}
use lib.Seq.{sets, get_or-take}
use mir.Syntax.{w32}
use mir.Val.{SFits, to_z}
use mir.Facts.{to_z_pos}
use Rattle.node.proofs.Loops.{drop-step}
use Rattle.refusals.specs.Refusals.{front}
use Rattle.refusals.proofs.Laws.{front-sets}
use Rattle.lowering.specs.declared.Reduction.{Reduction}
use Rattle.reduce.specs.Room.{CostRoom, Room}

-- the part of a reduction's costs that is copied
pub part_room : (r : Reduction) (columns c o : ℕ) → Room r columns c o → CostRoom (take (columns - 0) r.node.cost) c
part_room r columns c o w =
    let short : length (take columns r.node.cost) ≤ columns = simp length-take (omega arith) in
    rw sub-zero (record {
      places = omega (arith, w.reduced);
      below = λ j h.
          let b : j < columns = omega arith in
          rw (get_or-take columns r.node.cost j 0 b) (w.below j b);
    })

-- at place j
pub record Copying (dst₀ : List ℤ) (src : List ℕ) (dst : List ℤ) (j : ℕ) : Type 0 where
  pub room : CostRoom src (length dst₀)
  pub long : length dst ≡ length dst₀
  pub left : sets dst j (map pos (drop j src)) ≡ sets dst₀ 0 (map pos src)

pub copying_start : (dst : List ℤ) (src : List ℕ) → CostRoom src (length dst) → Copying dst src dst 0
copying_start dst src h = record { room = h; long = refl; left = refl }

module _ (dst₀ : List ℤ) (src : List ℕ) (dst : List ℤ) (j : ℕ) (w : Copying dst₀ src dst j) where
  pub copying_fits : j < length src → SFits w32 (pos (get_or src j 0))
  copying_fits h = record { sfits = w.room.below j h }

  pub copying_place : j < length src → j < length dst
  copying_place h = omega (arith, w.room.places, w.long)

  pub copying_next : j < length src → Copying dst₀ src (set dst j (to_z w32 (get_or src j 0))) (j + 1)
  copying_next h = rw (to_z_pos w32 (w.room.below j h)) (record {
    room = w.room;
    long = length-set dst j (pos (get_or src j 0)) ∙ w.long;
    left = rw (add-one j) (sym (ap (λ xs. sets dst j (map pos xs)) (rw (add-one j) at (drop-step src j h))) ∙ w.left);
  })

  pub copying_end : length src ≤ j → dst ≡ front (map pos src) dst₀
  copying_end h =
      sym (ap (λ xs. sets dst j (map pos xs)) (drop_of_length-le src h))
      ∙ w.left
      ∙ front-sets (map pos src) dst₀ (rw (length-map src pos) w.room.places)
