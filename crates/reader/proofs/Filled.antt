-- Filling a list from the entries: the places that are left to fill, filled from the entries that are left, give what all of them give.
use mathlib.Core.Path.{◌≡◌, refl, ◌∙◌}
use mathlib.Core.List.{List, ◌∷◌, map}
use Prim.Native.Nat.{ℕ, ◌+◌, ◌-◌, ◌≤◌, ◌<◌}
use native.Mathlib.Numerals.{add-one}
use native.Mathlib.Omega.{arith}
use lib.ListN.{length, take, drop, set, length-set, length-map, length-drop}
use lib.Seq.{sets, take_all}
use Rattle.refusals.specs.Refusals.{fine, front}
use Rattle.refusals.proofs.Laws.{front-sets}
use Rattle.dutyfile.specs.declared.Entry.{Entry}
use Rattle.dutyfile.specs.File.{columns_in, bodies_at, entry_of, entries, parse}
use Rattle.dutyfile.specs.Faults.{header_fault}
use Rattle.dutyfile.proofs.Entries.{length-entries, entries-step, entries-end}
use Rattle.dutyfile.proofs.Facts.{Header, header-fine}

-- at entry j, with f of each entry to be stored
pub record Filling {A : Type 0} (f : Entry → A) (s : List ℕ) (old : List A) (columns : ℕ) (out : List A) (j : ℕ) : Type 0 where
  pub header : Header s
  pub columns_is : columns ≡ columns_in s
  pub within : j ≤ columns
  pub room : columns ≤ length out
  pub same_length : length out ≡ length old
  pub left : sets out j (map f (drop j (entries s))) ≡ sets old 0 (map f (entries s))

module _ {A : Type 0} (f : Entry → A) (s : List ℕ) (old : List A) (columns : ℕ) where
  pub filling_start : header_fault s ≡ fine → columns_in s ≤ length old → columns ≡ columns_in s → Filling f s old columns old 0
  filling_start h r c = record {
    header = header-fine s h;
    columns_is = c;
    within = omega arith;
    room = omega arith;
    same_length = refl;
    left = refl;
  }

  module _ (out : List A) (j : ℕ) (w : Filling f s old columns out j) where
    pub filling_next : j < columns → (e : Entry) → e ≡ entry_of (drop (bodies_at j) s) → (x : A) → x ≡ f e → Filling f s old columns (set out j x) (j + 1)
    filling_next h e is x v =
        let here : drop j (entries s) ≡ e ∷ drop (j + 1) (entries s) = rw is (entries-step s j (rw w.columns_is at h)) in
        record {
          header = w.header;
          columns_is = w.columns_is;
          within = omega arith;
          room = simp length-set w.room;
          same_length = simp length-set w.same_length;
          left = rw (v, ← w.left, here, add-one);
        }

    pub filling_end : columns ≤ j → out ≡ front (map f (entries s)) old
    filling_end h =
        let l : length (map f (entries s)) ≤ length old = rw (length-map (entries s) f, length-entries s) (omega (arith, w.columns_is, w.room, w.same_length)) in
        rw (entries-end s j (rw w.columns_is at h)) at w.left ∙ front-sets (map f (entries s)) old l

-- all that follows the contents
module _ (s old : List ℕ) (columns : ℕ) (is : columns ≡ columns_in s) where
  pub rest_part : take (length s - bodies_at columns) (drop (bodies_at columns) s) ≡ (parse s).numbers
  unfolding parse
  rest_part = rw (← is) (take_all (length s - bodies_at columns) (drop (bodies_at columns) s) (simp length-drop (omega arith)))

  pub rest-filled : (out : List ℕ) → length (parse s).numbers ≤ length old →
      out ≡ sets old 0 (take (length s - bodies_at columns) (drop (bodies_at columns) s)) → out ≡ front (parse s).numbers old
  rest-filled out h e = e ∙ rw rest_part (front-sets (parse s).numbers old h)
