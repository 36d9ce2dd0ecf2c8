-- What the second call comes to, by the first one's answer and lists, as their contracts say them.
use mathlib.Core.Path.{◌≡◌, ap, sym, ◌∙◌}
use mathlib.Core.List.{List}
use Prim.Native.Nat.{ℕ, ◌-◌, ◌≤◌}
use native.Mathlib.Nat.{sub-zero}
use lib.Dec.{leb}
use lib.IntN.{ℤ}
use lib.ListN.{length, take}
use borrow.Author.Tests.{leb-true}
use Rattle.refusals.specs.Refusals.{fine, Outcome, accepted, refused, filled}
use Rattle.refusals.proofs.Laws.{both, asked, stops_at, accepts, refuses, unless-fault, outcome_goes_on, fills, front-take}
use Rattle.dutyfile.specs.declared.Shape.{Shape}
use Rattle.dutyfile.specs.File.{Lists, lists, columns_in, parse, render, shape}
use Rattle.dutyfile.specs.Faults.{lists_fault, file_fault, room, rooms_fault, reading, writing}
use Rattle.dutyfile.proofs.Entries.{length-costs, length-lengths}
use Rattle.dutyfile.proofs.Facts.{Accepted, file-fine, length-numbers}
use Rattle.dutyfile.proofs.Round.{ReadsBack, write_then_read, Bytes, WritesBack, read_then_write}
use Rattle.roundtrip.specs.Back.{shape_of, read_back, written_back}

-- the edition, m, n and t of an accepted file are those of its lists
shape-lists : (s : List ℕ) → Accepted s → shape s ≡ shape_of (parse s)
unfolding shape shape_of parse
shape-lists s a = rw (length-costs s, length-numbers s a.walked)

-- the places that a call has filled
filled_part : {A B : Type 0} {o : Outcome A} (a : A) (new old now : List B) (n : ℕ) → o ≡ accepted a → now ≡ filled o new old → length new ≡ n →
    take (n - 0) now ≡ new
filled_part a new old now n e h l = rw (sub-zero, h, fills a new old e) (front-take new old n l)

-- Lists that are written, and the file that is read.
module _ (d : Lists) (k c l r : ℕ) where
  pub write_refused : (j : ℕ) → refused j ≡ writing d k → refused j ≡ read_back d k c l r
  unfolding writing read_back
  write_refused j e = unless-fault _ j (stops_at j _ (refuses _ _ j (sym e)))

  module _ (size : ℕ) (e : accepted size ≡ writing d k) where
    reads_back : ReadsBack d
    reads_back = write_then_read d k size (sym e)

    tests : ((lists_fault d ≡ fine) × (room (length (render d)) k ≡ fine)) × (length (render d) ≡ size)
    unfolding writing
    tests = let t = accepts _ _ _ (sym e) in (both _ _ t.0, t.1)

    pub written-fits : size ≤ k
    written-fits = rw tests.1 at (leb-true (length (render d)) k (asked (leb (length (render d)) k) 10 tests.0.1))

    shape_back : shape (render d) ≡ shape_of d
    shape_back = shape-lists (render d) (file-fine (render d) reads_back.passes) ∙ ap shape_of reads_back.lists

    reading_back : reading (render d) c l r ≡ read_back d k c l r
    unfolding reading read_back writing
    reading_back =
        outcome_goes_on (rooms_fault (shape (render d)) c l r) (shape (render d)) reads_back.passes
        ∙ rw shape_back (sym (outcome_goes_on (rooms_fault (shape_of d) c l r) (shape_of d) (accepts _ _ _ (sym e)).0))

    -- A written file reads back as the same lists: what is read from the front of the buffer.
    module _ (old file : List ℕ) (is : file ≡ filled (writing d k) (render d) old) where
      file_part : take (size - 0) file ≡ render d
      file_part = filled_part size (render d) old file size (sym e) is tests.1

      pub lists_read : parse (take (size - 0) file) ≡ d
      lists_read = rw file_part reads_back.lists

      pub outcome_read : reading (take (size - 0) file) c l r ≡ read_back d k c l r
      outcome_read = rw file_part reading_back

-- A file that is read, and the lists that are written.

-- m is small, and the lists have room
pub record Found (found : Shape) (c l r : ℕ) : Type 0 where
  pub rows : found.rows ≤ 64
  pub costs : found.columns ≤ c
  pub lengths : found.columns ≤ l
  pub numbers : found.entries ≤ r

module _ (s : List ℕ) (c l r : ℕ) where
  pub read_refused : (k j : ℕ) → refused j ≡ reading s c l r → refused j ≡ written_back s c l r k
  unfolding reading written_back
  read_refused k j e = unless-fault _ j (stops_at j _ (refuses _ _ j (sym e)))

  module _ (found : Shape) (e : accepted found ≡ reading s c l r) where
    passing : ((file_fault s ≡ fine) × (rooms_fault (shape s) c l r ≡ fine)) × (shape s ≡ found)
    unfolding reading
    passing = let t = accepts _ _ _ (sym e) in (both _ _ t.0, t.1)

    accepted-file : Accepted s
    accepted-file = file-fine s passing.0.0

    pub found-fits : Found found c l r
    unfolding rooms_fault shape
    found-fits =
        let a = both _ _ passing.0.1 in
        let b = both _ _ a.1 in
        rw (sym passing.1) (record {
          rows = accepted-file.walked.header.counts.rows.most;
          costs = leb-true _ _ (asked _ 10 a.0);
          lengths = leb-true _ _ (asked _ 10 b.0);
          numbers = leb-true _ _ (asked _ 10 b.1);
        })

    -- Writing the lists read from an accepted file gives its bytes: what is written from the fronts of the lists.
    module _ (costs : List ℤ) (lengths numbers : List ℕ) (costs₀ : List ℤ) (lengths₀ numbers₀ : List ℕ) (cost-list : costs ≡ filled (reading s c l r) (parse s).costs costs₀)
        (length-list : lengths ≡ filled (reading s c l r) (parse s).lengths lengths₀)
        (number-list : numbers ≡ filled (reading s c l r) (parse s).numbers numbers₀) where
      pub fronts_are : lists found.edition found.rows (take (found.columns - 0) costs) (take (found.columns - 0) lengths) (take (found.entries - 0) numbers) ≡ parse s
      unfolding parse shape
      fronts_are =
          let is = passing.1 in
          let columns : columns_in s ≡ found.columns = ap (λ (x : Shape). x.columns) is in
          let entries : length (parse s).numbers ≡ found.entries = length-numbers s accepted-file.walked ∙ ap (λ (x : Shape). x.entries) is in
          rw (
            sym (ap (λ (x : Shape). x.edition) is),
            sym (ap (λ (x : Shape). x.rows) is),
            filled_part found _ costs₀ costs _ (sym e) cost-list (length-costs s ∙ columns),
            filled_part found _ lengths₀ lengths _ (sym e) length-list (length-lengths s ∙ columns),
            filled_part found _ numbers₀ numbers _ (sym e) number-list entries,
          )

    module _ (y : Bytes s) (k : ℕ) (d : Lists) (is : d ≡ parse s) where
      writes_back : WritesBack s
      writes_back = read_then_write s y c l r found (sym e)

      pub file-written : render d ≡ s
      file-written = rw is writes_back.bytes

      pub outcome_written : writing d k ≡ written_back s c l r k
      unfolding writing reading written_back
      outcome_written =
          rw (is, writes_back.bytes)
          (outcome_goes_on (room (length s) k) (length s) writes_back.passes
          ∙ sym (outcome_goes_on (room (length s) k) (length s) (accepts _ _ _ (sym e)).0))
