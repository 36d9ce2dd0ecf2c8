-- The walk of a file: the entries in the table so far, with those that are left, are all of them.
use mathlib.Core.Path.{◌≡◌, ap, sym, ◌∙◌}
use mathlib.Core.List.{List, ◌∷◌, ◌++◌, append_assoc, append-nil}
use Prim.Native.Nat.{ℕ, ◌+◌, ◌*◌, ◌≤◌, ◌<◌}
use native.Mathlib.Nat.{le_antisymm}
use native.Mathlib.Numerals.{add-one}
use native.Mathlib.Omega.{arith}
use lib.ListN.{length, get_or, take, drop, set, length-set}
use lib.Seq.{take-suc-set, get_or-take}
use Rattle.refusals.specs.Refusals.{fine}
use Rattle.dutyfile.specs.declared.Entry.{Entry}
use Rattle.dutyfile.specs.File.{columns_in, bodies_at, entry_of, entries}
use Rattle.dutyfile.specs.Faults.{header_fault}
use Rattle.dutyfile.proofs.Entries.{entries_at, entries-step, entries-end}
use Rattle.dutyfile.proofs.Facts.{header-fine}

-- at the entry with number next, in the same file
pub record Walking (s : List ℕ) (columns : ℕ) (file : List ℕ) (next : ℕ) (table : List Entry) : Type 0 where
  pub file_is : file ≡ s
  pub within : next ≤ columns
  pub full : length table ≡ 256
  pub left : take next table ++ drop next (entries s) ≡ entries s

module _ (s : List ℕ) (columns : ℕ) (fair : header_fault s ≡ fine) (columns_is : columns ≡ columns_in s) where
  pub walking_start : (file : List ℕ) (next : ℕ) (t : List Entry) → file ≡ s → next ≡ 0 → length t ≡ 256 → Walking s columns file next t
  walking_start file next t e z full = record {
    file_is = e;
    within = rw z (omega arith);
    full = full;
    left = rw z;
  }

  pub few : columns ≤ 256
  few = omega (arith, (header-fine s fair).counts.columns.most, columns_is)

  module _ (file : List ℕ) (next : ℕ) (table : List Entry) (w : Walking s columns file next table) (more : next < columns) where
    pub inside : (next ≤ 255) × (16 + 8 * next ≤ length file)
    inside =
        let h = header-fine s fair in
        rw w.file_is (omega (arith, few, h.contents, h.counts.columns.most, columns_is), omega (arith, h.contents, h.counts.columns.most, columns_is))

    pub place : next < length table
    place = rw w.full (omega (arith, few))

    module _ (e : Entry) (is : e ≡ entry_of (drop (bodies_at next) file)) (file' : List ℕ) (next' : ℕ) (same : file' ≡ file) (on : next' ≡ next + 1) where
      here : drop next (entries s) ≡ e ∷ drop (next + 1) (entries s)
      here = rw (is, w.file_is) (entries-step s next (rw columns_is at more))

      pub walking_next : Walking s columns file' next' (set table next e)
      walking_next = record {
        file_is = same ∙ w.file_is;
        within = rw on (omega arith);
        full = length-set table next e ∙ w.full;
        left = rw (on, add-one, take-suc-set table next e place, append_assoc, ← add-one, ← here) w.left;
      }

  pub walking_end : (file : List ℕ) (next : ℕ) (table : List Entry) → Walking s columns file next table → columns ≤ next → take columns table ≡ entries s
  walking_end file next table w over =
      let e : next ≡ columns = le_antisymm w.within over in
      rw (entries-end s next (rw columns_is at over), append-nil, e) at w.left

-- a place of the table
pub table_at : (s : List ℕ) (columns : ℕ) (t : List Entry) → columns ≡ columns_in s → take columns t ≡ entries s → (j : ℕ) (d : Entry) → j < columns →
    get_or t j d ≡ entry_of (drop (bodies_at j) s)
table_at s columns t columns_is holds j d inside = sym (get_or-take columns t j d inside) ∙ ap (λ l. get_or l j d) holds ∙ entries_at s j d (rw columns_is at inside)
