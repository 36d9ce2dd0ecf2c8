-- A row's columns: those that are left to look at, written from the present place on, give what all of them give.
use mathlib.Core.Path.{◌≡◌, ap, sym, ◌∙◌}
use mathlib.Core.List.{List, [], ◌∷◌}
use Prim.Native.Nat.{ℕ, ◌+◌, ◌-◌, ◌≤◌, ◌<◌}
use native.Mathlib.Nat.{sub-zero}
use native.Mathlib.Numerals.{add-one}
use native.Mathlib.Omega.{arith}
use lib.ListN.{length, get_or, set}
use lib.Seq.{sets}
use borrow.Author.Tests.{eq-eqb, ne_eqb}
use Rattle.node.specs.Lists.{keep, from}
use Rattle.node.proofs.Loops.{from_next}
use Rattle.matrix.specs.Build.{place, marked_in, marks_of}

-- the columns from j on that are marked in a row
abbrev rest : List ℕ → ℕ → ℕ → ℕ → List ℕ
rest cover columns row j = keep (marked_in cover row) (from (columns - j) j)

-- at column j
pub record Collecting (cover : List ℕ) (columns row : ℕ) (matrix₀ : List ℕ) (at : ℕ) (matrix : List ℕ) (end j : ℕ) : Type 0 where
  pub few : columns ≤ 256
  pub row_is : row < 64
  pub room : at + length (marks_of cover columns row) ≤ 8516
  pub within : j ≤ columns
  pub left : sets matrix end (rest cover columns row j) ≡ sets matrix₀ at (marks_of cover columns row)
  pub count : end + length (rest cover columns row j) ≡ at + length (marks_of cover columns row)

pub collecting_start : (cover : List ℕ) (columns row : ℕ) (matrix : List ℕ) (at : ℕ) →
    (columns ≤ 256) × (row < 64) × (at + length (marks_of cover columns row) ≤ 8516) → Collecting cover columns row matrix at matrix at 0
collecting_start cover columns row matrix at h =
    record { few = h.0; row_is = h.1; room = h.2; within = omega arith; left = rw sub-zero; count = rw sub-zero }

module _ (cover : List ℕ) (columns row : ℕ) (matrix₀ : List ℕ) (at : ℕ) (matrix : List ℕ) (end j : ℕ)
    (w : Collecting cover columns row matrix₀ at matrix end j) (inside : j < columns) where
  module _ (h : get_or cover (place row j) 0 ≡ 1) where
    found : rest cover columns row j ≡ j ∷ rest cover columns row (j + 1)
    unfolding keep
    found = rw (from_next columns j inside, eq-eqb (get_or cover (place row j) 0) 1 h)

    pub collecting_room : end < 8516
    collecting_room = omega (arith, w.room, w.count, ap length found)

    pub collecting_found : Collecting cover columns row matrix₀ at (set matrix end j) (end + 1) (j + 1)
    collecting_found = record {
      few = w.few;
      row_is = w.row_is;
      room = w.room;
      within = omega arith;
      left = rw (add-one end) (sym (ap (sets matrix end) found) ∙ w.left);
      count = omega (arith, w.count, ap length found);
    }

  pub collecting_other : (get_or cover (place row j) 0 ≡ 1 → ⊥) → Collecting cover columns row matrix₀ at matrix end (j + 1)
  unfolding keep
  collecting_other h =
      let e : rest cover columns row j ≡ rest cover columns row (j + 1) =
      rw (from_next columns j inside, ne_eqb (get_or cover (place row j) 0) 1 h) in
      record {
        few = w.few;
        row_is = w.row_is;
        room = w.room;
        within = omega arith;
        left = sym (ap (sets matrix end) e) ∙ w.left;
        count = omega (arith, w.count, ap length e);
      }

module _ (cover : List ℕ) (columns row : ℕ) (matrix₀ : List ℕ) (at : ℕ) (matrix : List ℕ) (end j : ℕ)
    (w : Collecting cover columns row matrix₀ at matrix end j) (h : columns ≤ j) where
  none : rest cover columns row j ≡ []
  unfolding keep from
  none = let e : columns - j ≡ 0 = omega arith in rw e

  pub collecting_end : (end ≡ at + length (marks_of cover columns row)) × (matrix ≡ sets matrix₀ at (marks_of cover columns row))
  collecting_end = (omega (arith, w.count, ap length none), sym (ap (sets matrix end) none) ∙ w.left)
