-- The ways out of a step, and those out of making a desk empty.
use mathlib.Core.Path.{◌≡◌, sym, ap, ◌∙◌}
use mathlib.Core.Bool.{Bool, true, false, cond}
use mathlib.Core.List.{List}
use Prim.Native.Nat.{ℕ, ◌+◌, ◌-◌, ◌≤◌, ◌<◌}
use native.Mathlib.Omega.{arith}
use lib.Dec.{leb}
use lib.ListN.{get_or, take, drop}
use borrow.Author.Tests.{le-leb, lt-leb, leb-true}
use Rattle.refusals.specs.Refusals.{fine, fault, accepted, refused, unless}
use Rattle.refusals.proofs.Laws.{stops_at, goes_on, passes, fails, both, asked, accepts, unless-fine, unless-fault}
use Rattle.node.proofs.Members.{and_both}
use Rattle.dutyfile.specs.declared.Entry.{Entry}
use Rattle.dutyfile.specs.declared.Shape.{Shape}
use Rattle.dutyfile.specs.File.{rows_in, columns_in, bodies_at, entry_of, cost_of, shape}
use Rattle.dutyfile.specs.Faults.{rising, file_fault}
use Rattle.dutyfile.proofs.Facts.{file-fine}
use Rattle.dutyfile.proofs.Columns.{ColumnAt, column-at, body-rises, part_is}
use Rattle.desk.specs.declared.Way.{Way}
use Rattle.desk.specs.declared.Said.TheVariants.{Changed, Unchanged}
use Rattle.desk.specs.Desk.{Desk, empty_desk, changes, moved}
use Rattle.desk.specs.Steps.{step_fault, stepping, after, moved_by, stepped, emptied}
use Rattle.desk.specs.Found.{Found}

-- the tests of a step
module _ (file : List ℕ) (number : ℕ) where
  pub fault-file : (k : ℕ) → file_fault file ≡ fault k → step_fault file number ≡ fault k
  unfolding step_fault
  fault-file k e = stops_at k _ e

  module _ (ok : file_fault file ≡ fine) where
    pub fault-low : number < 1 → step_fault file number ≡ fault 19
    unfolding step_fault
    fault-low h = goes_on _ ok ∙ fails 19 (simp (lt-leb 1 number h))

    pub fault_high : 1 ≤ number → columns_in file < number → step_fault file number ≡ fault 19
    unfolding step_fault
    fault_high g h = goes_on _ ok ∙ fails 19 (simp (le-leb 1 number g, lt-leb number (columns_in file) h))

    pub fault-none : 1 ≤ number → number ≤ columns_in file → step_fault file number ≡ fine
    unfolding step_fault
    fault-none g h = goes_on _ ok ∙ passes 19 (simp (le-leb 1 number g, le-leb number (columns_in file) h))

  -- and the other way round
  pub passed : step_fault file number ≡ fine → (file_fault file ≡ fine) × (1 ≤ number) × (number ≤ columns_in file)
  unfolding step_fault
  passed e =
      let a = both _ _ e in
      let b = and_both {a = leb 1 number} {b = leb number (columns_in file)} (asked _ 19 a.1) in
      (a.0, leb-true 1 number b.0, leb-true number (columns_in file) b.1)

-- what a step says, and the desk after it
module _ (way : Way) (file : List ℕ) (number : ℕ) (d : Desk) where
  refuses : (k : ℕ) → step_fault file number ≡ fault k → refused k ≡ stepping way file number d
  unfolding stepping
  refuses k e = unless-fault _ k e

  pub step-refused : (k : ℕ) → step_fault file number ≡ fault k → (refused k ≡ stepping way file number d) × (d ≡ stepped way file number d)
  unfolding stepped after
  step-refused k e = let s = refuses k e in (s, rw (← s))

  module _ (e : step_fault file number ≡ fine) where
    says : (b : Bool) → changes way (get_or d.marks (number - 1) 0) ≡ b → accepted (cond b Changed Unchanged) ≡ stepping way file number d
    unfolding stepping
    says b c = rw c (unless-fine _ e)

    pub step_idle : changes way (get_or d.marks (number - 1) 0) ≡ false → (accepted Unchanged ≡ stepping way file number d) × (d ≡ stepped way file number d)
    unfolding stepped after
    step_idle c = let s = says false c in (s, rw (← s))

    pub step-done : (new : Desk) → changes way (get_or d.marks (number - 1) 0) ≡ true → new ≡ moved_by way file number d →
        (accepted Changed ≡ stepping way file number d) × (new ≡ stepped way file number d)
    unfolding stepped after
    step-done new c m = let s = says true c in (s, rw (← s) m)

-- the column of an entry
module _ (file : List ℕ) (number : ℕ) (e : Entry) (f : Found file number e) where
  pub found-column : ColumnAt file (number - 1) e
  found-column =
      let p = passed file number f.passes in
      rw f.entry (column-at file (file-fine file p.0).walked (number - 1) (omega (arith, p.1, p.2)))

  pub found_ready : (number - 1 < 256) × (rising 0 64 (take (e.start + e.size - e.start) (drop e.start file)) ≡ true)
  found_ready =
      let p = passed file number f.passes in
      let a = file-fine file p.0 in (
        omega (arith, p.2, a.walked.header.counts.columns.most),
        rw (part_is file a (number - 1) e (omega (arith, p.1, p.2)) f.entry) (body-rises file a (number - 1)),
      )

  pub found-moved : (way : Way) (d : Desk) → moved way (number - 1) (take (e.start + e.size - e.start) (drop e.start file)) (cost_of e) d ≡ moved_by way file number d
  unfolding moved_by
  found-moved way d =
      let p = passed file number f.passes in
      rw (part_is file (file-fine file p.0) (number - 1) e (omega (arith, p.1, p.2)) f.entry, found-column.cost)

-- the empty desk
module _ (file : List ℕ) (d : Desk) where
  pub empty_refused : (k : ℕ) → file_fault file ≡ fault k → d ≡ emptied file d
  unfolding emptied after unless
  empty_refused k e = rw e

  pub empty_made : file_fault file ≡ fine → empty_desk (rows_in file) ≡ emptied file d
  unfolding emptied after unless
  empty_made e = rw e

-- an accepted file's shape, by its counts
module _ (s : List ℕ) (h : Shape) (is : accepted h ≡ unless (file_fault s) (shape s)) where
  pub shape_passes : file_fault s ≡ fine
  shape_passes = (accepts _ _ _ (sym is)).0

  pub shape_rows : h.rows ≡ rows_in s
  unfolding shape
  shape_rows = ap (λ (x : Shape). x.rows) (sym (accepts _ _ _ (sym is)).1)

  pub shape_columns : h.columns ≡ columns_in s
  unfolding shape
  shape_columns = ap (λ (x : Shape). x.columns) (sym (accepts _ _ _ (sym is)).1)

-- an entry that was found
pub found_here : (file : List ℕ) (number : ℕ) (e : Entry) → accepted e ≡ unless (step_fault file number) (entry_of (drop (bodies_at (number - 1)) file)) → Found file number e
found_here file number e is = let a = accepts _ _ _ (sym is) in record { passes = a.0; entry = sym a.1 }
