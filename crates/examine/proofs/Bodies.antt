-- The walk over the bodies: those that are left come to what all of them come to, and each is the part of the file that its entry says.
use mathlib.Core.Path.{◌≡◌, ap, sym, ◌∙◌}
use mathlib.Core.Bool.{Bool, true, false}
use mathlib.Core.List.{List, [], ◌∷◌}
use Prim.Native.Nat.{ℕ, ◌+◌, ◌-◌, ◌≤◌, ◌<◌}
use native.Mathlib.Numerals.{add-one}
use native.Mathlib.Omega.{arith}
use lib.ListN.{length, take, drop, drop_of_length-le}
use lib.Seq.{drop-cons}
use Rattle.refusals.specs.Refusals.{fine, fault}
use Rattle.dutyfile.specs.declared.Entry.{Entry}
use Rattle.dutyfile.specs.File.{rows_in, columns_in, bodies_at, entry_of, parse, bodies}
use Rattle.dutyfile.specs.Faults.{rising, header_fault, contents_fault, end_fault, bodies_fault, rows_fault}
use Rattle.dutyfile.proofs.Rising.{bodies-stop, bodies_next, bodies-none}
use Rattle.dutyfile.proofs.Entries.{length-lengths}
use Rattle.dutyfile.proofs.Facts.{Walked, walk_fine}
use Rattle.dutyfile.proofs.Columns.{ColumnAt, column-at, length-bodies}

-- the bodies of a file
abbrev file_bodies : List ℕ → List (List ℕ)
file_bodies s = bodies (parse s).lengths (parse s).numbers

-- at body j
pub record Testing (s : List ℕ) (rows columns j : ℕ) : Type 0 where
  pub walked : Walked s
  pub rows_is : rows ≡ rows_in s
  pub columns_is : columns ≡ columns_in s
  pub within : j ≤ columns
  pub left : bodies_fault rows (drop j (file_bodies s)) ≡ rows_fault s

pub testing_start : (s : List ℕ) (rows columns : ℕ) → header_fault s ≡ fine → contents_fault s ≡ fine → end_fault s ≡ fine →
    rows ≡ rows_in s → columns ≡ columns_in s → Testing s rows columns 0
unfolding rows_fault
testing_start s rows columns h c e r n =
    record { walked = walk_fine s h c e; rows_is = r; columns_is = n; within = omega arith; left = rw r }

module _ (s : List ℕ) (rows columns j : ℕ) (w : Testing s rows columns j) where
  count : length (file_bodies s) ≡ columns
  count = length-bodies _ _ ∙ length-lengths s ∙ sym w.columns_is

  module _ (inside : j < columns) (e : Entry) (is : e ≡ entry_of (drop (bodies_at j) s)) where
    pub testing_column : ColumnAt s j e
    testing_column = rw is (column-at s w.walked j (rw w.columns_is at inside))

    -- its body is the part of the file from its start for its length
    here : drop j (file_bodies s) ≡ take (e.start + e.size - e.start) (drop e.start s) ∷ drop (j + 1) (file_bodies s)
    here =
        let z : e.start + e.size - e.start ≡ e.size = omega arith in
        rw (z, add-one j, ← testing_column.body) (drop-cons (file_bodies s) j [] (rw count inside))

    module _ (r : Bool) (told : r ≡ rising 0 rows (take (e.start + e.size - e.start) (drop e.start s))) where
      pub testing_stop : r ≡ false → fault 9 ≡ rows_fault s
      testing_stop h = sym (sym w.left ∙ rw here (bodies-stop rows _ _ (sym told ∙ h)))

      pub testing_next : r ≡ true → Testing s rows columns (j + 1)
      testing_next h = record {
        walked = w.walked;
        rows_is = w.rows_is;
        columns_is = w.columns_is;
        within = omega arith;
        left = sym (bodies_next rows _ _ (sym told ∙ h)) ∙ ap (bodies_fault rows) (sym here) ∙ w.left;
      }

  pub testing_end : columns ≤ j → fine ≡ rows_fault s
  testing_end h =
      let l : length (file_bodies s) ≤ j = rw count h in
      sym (sym w.left ∙ ap (bodies_fault rows) (drop_of_length-le (file_bodies s) l) ∙ bodies-none rows)
