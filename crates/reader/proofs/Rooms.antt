-- The ways out of reading, once a file's tests are done, and what they say of the lists to be filled.
use mathlib.Core.Path.{◌≡◌, sym, ◌∙◌}
use mathlib.Core.List.{List}
use Prim.Native.Nat.{ℕ, ◌≤◌}
use lib.ListN.{length}
use borrow.Author.Tests.{leb-true}
use Rattle.refusals.specs.Refusals.{fine, fault, accepted, refused, unless}
use Rattle.refusals.proofs.Laws.{both, asked, stops_at, goes_on, unless-fine, unless-fault, accepts, refuses}
use Rattle.dutyfile.specs.declared.Shape.{Shape}
use Rattle.dutyfile.specs.File.{columns_in, parse, shape}
use Rattle.dutyfile.specs.Faults.{header_fault, file_fault, rooms_fault, reading}
use Rattle.dutyfile.proofs.Facts.{length-numbers, file-fine}

-- what lists of c, l and r places must hold to be filled
pub record Roomy (s : List ℕ) (c l r : ℕ) : Type 0 where
  pub header : header_fault s ≡ fine
  pub costs : columns_in s ≤ c
  pub lengths : columns_in s ≤ l
  pub rows : length (parse s).numbers ≤ r

module _ (s : List ℕ) (c l r : ℕ) where
  pub reading-refused : (k : ℕ) → refused k ≡ unless (file_fault s) (shape s) → refused k ≡ reading s c l r
  unfolding reading
  reading-refused k e = unless-fault _ k (stops_at k _ (refuses _ _ k (sym e)))

  module _ (found : Shape) (e : accepted found ≡ unless (file_fault s) (shape s)) where
    is : found ≡ shape s
    is = sym (accepts _ _ _ (sym e)).1

    pub reading-short : (k : ℕ) → rooms_fault found c l r ≡ fault k → refused k ≡ reading s c l r
    unfolding reading
    reading-short k h = unless-fault _ k (goes_on _ (accepts _ _ _ (sym e)).0 ∙ rw is at h)

    module _ (h : rooms_fault found c l r ≡ fine) where
      pub reading-done : accepted found ≡ reading s c l r
      unfolding reading
      reading-done = rw is (unless-fine (shape s) (goes_on _ (accepts _ _ _ (sym e)).0 ∙ rw is at h))

      pub roomy : Roomy s c l r
      unfolding rooms_fault shape file_fault
      roomy =
          let f = (accepts _ _ _ (sym e)).0 in
          let a = both _ _ (rw is at h) in
          let b = both _ _ a.1 in
          record {
            header = (both _ _ f).0;
            costs = leb-true _ _ (asked _ 10 a.0);
            lengths = leb-true _ _ (asked _ 10 b.0);
            rows = rw (length-numbers s (file-fine s f).walked) (leb-true _ _ (asked _ 10 b.1));
          }
