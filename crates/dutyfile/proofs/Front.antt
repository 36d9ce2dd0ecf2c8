-- No file that passes has more than 6,152 bytes, and the tests find the same in any longer front of a file as in the file.
use mathlib.Core.Path.{◌≡◌, refl, sym, ◌∙◌}
use mathlib.Core.Bool.{Bool, true, false}
use mathlib.Core.List.{List}
use Prim.Native.Nat.{ℕ, zero, suc, ◌+◌, ◌*◌, ◌≤◌, ◌<◌}
use native.Mathlib.Omega.{arith}
use lib.Dec.{leb}
use borrow.Author.Tests.{leb-true, leb-false, le-leb, ne_eqb}
use lib.ListN.{length, get_or, take, drop}
use lib.Seq.{length-take-le, take_all, take-take, get_or-take, get_or-drop}
use Rattle.refusals.specs.Refusals.{fine, fault}
use Rattle.refusals.proofs.Laws.{stops_at, passes, fails, then_same}
use Rattle.dutyfile.specs.File.{edition_in, rows_in, columns_in, bodies_at, entry_of, entries_of, entries, parse, sum}
use Rattle.dutyfile.specs.Faults.{header_fault, contents_fault, end_fault, file_fault}
use Rattle.dutyfile.proofs.Facts.{counts-fine, header-fine, contents-small, file-fine}

-- the last body ends at 6,152 or sooner
end-small : (s : List ℕ) → header_fault s ≡ fine → contents_fault s ≡ fine → 6152 < length s → end_fault s ≡ fault 8
unfolding end_fault
end-small s h c l =
    let n = (header-fine s h).counts.columns.most in
    let t = contents-small s c in
    fails 8 (ne_eqb (length s) (bodies_at (columns_in s) + sum (parse s).lengths) (λ e. omega arith))

pub file-short : (s : List ℕ) → file_fault s ≡ fine → length s ≤ 6152
unfolding contents_fault
file-short s e =
    let w = (file-fine s e).walked in
    omega (arith, w.end, w.header.counts.columns.most, contents-small s w.contents)

-- entries are read from their own bytes
entries_of_same : (n : ℕ) (b c : List ℕ) → ((i : ℕ) → i < 8 * n → get_or b i 0 ≡ get_or c i 0) → entries_of n b ≡ entries_of n c
unfolding entries_of
entries_of_same zero b c e = refl
entries_of_same (suc n) b c e =
    let q : entry_of b ≡ entry_of c =
    rw (e 0 (omega arith), e 1 (omega arith), e 2 (omega arith), e 3 (omega arith), e 4 (omega arith), e 5 (omega arith), e 6 (omega arith), e 7 (omega arith)) in
    rw (q, entries_of_same n (drop 8 b) (drop 8 c) (λ i h. simp get_or-drop (e (8 + i) (omega arith))))

-- a front that is longer than any file, of a file that is longer still
module _ (k : ℕ) (s : List ℕ) (most : 6152 < k) (long : k < length s) where
  length_front : length (take k s) ≡ k
  length_front = length-take-le k s (omega arith)

  at_front : (i : ℕ) → i < k → get_or (take k s) i 0 ≡ get_or s i 0
  at_front i h = get_or-take k s i 0 h

  rows-front : rows_in (take k s) ≡ rows_in s
  rows-front = rw (at_front 4 (omega arith), at_front 5 (omega arith))

  columns-front : columns_in (take k s) ≡ columns_in s
  columns-front = rw (at_front 6 (omega arith), at_front 7 (omega arith))

  edition-front : edition_in (take k s) ≡ edition_in s
  unfolding edition_in
  edition-front = rw (take-take 4 k s (omega arith))

  entries-front : columns_in s ≤ 256 → entries (take k s) ≡ entries s
  unfolding entries
  entries-front h =
      rw columns-front (entries_of_same (columns_in s) (drop 8 (take k s)) (drop 8 s)
      (λ i l. simp get_or-drop (at_front (8 + i) (omega arith))))

  header-front : header_fault (take k s) ≡ header_fault s
  unfolding header_fault
  header-front =
      rw (length_front, le-leb 8 k (omega arith), le-leb 8 (length s) (omega arith), take-take 4 k s (omega arith), rows-front, columns-front)
      (then_same _ (λ _. then_same _ (λ _. then_same _ (λ c.
      let n = (counts-fine _ _ c).columns.most in
      let in-front : bodies_at (columns_in s) ≤ k = omega arith in
      let in-file : bodies_at (columns_in s) ≤ length s = omega arith in
      passes 3 (le-leb _ _ in-front) ∙ sym (passes 3 (le-leb _ _ in-file))))))

  contents-front : header_fault s ≡ fine → contents_fault (take k s) ≡ contents_fault s
  unfolding contents_fault
  contents-front h = rw (edition-front, rows-front, columns-front, entries-front (header-fine s h).counts.columns.most)

  longer_front : file_fault (take k s) ≡ file_fault s
  unfolding file_fault
  longer_front =
      rw header-front (then_same _ (λ h. rw (contents-front h) (then_same _ (λ c.
      stops_at 8 _ (end-small (take k s) (header-front ∙ h) (contents-front h ∙ c) (rw length_front most))
      ∙ sym (stops_at 8 _ (end-small s h c (omega arith)))))))

pub front-fault : (k : ℕ) (s : List ℕ) → 6152 < k → file_fault (take k s) ≡ file_fault s
front-fault k s most = go (leb (length s) k) refl
  where
    go : (b : Bool) → leb (length s) k ≡ b → file_fault (take k s) ≡ file_fault s
    go true e = rw (take_all k s (leb-true _ _ e))
    go false e = longer_front k s most (leb-false _ _ e)
