-- The round trip: the file of lists that pass holds those lists and passes, and the lists of a file that passes have its bytes for their file.
-- Both go entry by entry: 8 bytes make an entry again, and an entry's three numbers make its 8 bytes again.
use mathlib.Core.Path.{◌≡◌, refl, ap, sym, ◌∙◌}
use mathlib.Core.Bool.{Bool, true, false, cond, ◌||◌, or-false}
use mathlib.Core.List.{List, [], ◌∷◌, ◌++◌, map}
use Prim.Native.Nat.{ℕ, zero, suc, ◌+◌, ◌*◌, ◌≤◌, ◌<◌}
use native.Mathlib.Nat.{add-zero}
use native.Mathlib.Omega.{arith}
use borrow.Author.Tests.{eq-eqb, eqb-true}
use lib.IntN.{ℤ}
use lib.ListN.{length, get_or, take, drop, length-append, length-drop}
use lib.Seq.{drop-cons, drop-drop, drop_at, get_or-drop, get_or-take}
use mir.Syntax.{w32}
use mir.Val.{SFits}
use mir.Facts.{to_z-of_z, of_z-to_z, Fits-of_z}
use Rattle.signed.specs.Signed.{signed, bits}
use Rattle.endian.specs.Bytes.{same, word32, at16, at32, bytes16, bytes32}
use Rattle.endian.proofs.Round.{join16_split, join32_split, split16_join, split32_join, same_true}
use Rattle.refusals.specs.Refusals.{fine, accepted}
use Rattle.refusals.proofs.Laws.{both, asked, accepts, passes}
use Rattle.dutyfile.specs.declared.Edition.{Edition}
use Rattle.dutyfile.specs.declared.Edition.TheVariants.{Spp1, Spp2}
use Rattle.dutyfile.specs.declared.Entry.{Entry}
use Rattle.dutyfile.specs.declared.Shape.{Shape}
use Rattle.dutyfile.specs.File.{Lists, magic, edition_in, rows_in, columns_in, bodies_at, entry_of, entries_of, entries, cost_of, size_of, parse, contents, header, render, sum, bodies}
use Rattle.dutyfile.specs.Faults.{counts_fault, column_fault, entries_fault, columns_fault, bodies_fault, rows_fault, file_fault, numbers_fault, lists_fault, reading, writing}
use Rattle.dutyfile.proofs.Entries.{length-costs, length-lengths}
use Rattle.dutyfile.proofs.Costs.{cost-fits}
use Rattle.dutyfile.proofs.Facts.{all_pass, within-asks, Counts, counts-fine, Column, column-fine, entry-fine, fine-entry, length-numbers, Accepted, file-fine, fine-file}

-- From lists to a file and back.

entry_back : (c a l : ℕ) (r : List ℕ) → c < 4294967296 → a < 65536 → l < 65536 →
    entry_of (bytes32 c ++ bytes16 a ++ bytes16 l ++ r) ≡ record { cost = c; start = a; size = l }
entry_back c a l r f g h = rw (join32_split c f, join16_split a g, join16_split l h)

record Back (ed : Edition) (m n t : ℕ) (cs : List ℤ) (ls : List ℕ) (es : List Entry) : Type 0 where
  passing : entries_fault ed m n t es ≡ fine
  costs : map cost_of es ≡ cs
  sizes : map size_of es ≡ ls

-- columns that pass, among n
module _ (ed : Edition) (m n : ℕ) (counts : Counts m n) (rest : List ℕ) where
  back_cons : (t : ℕ) (c : ℤ) (l : ℕ) (cs : List ℤ) (ls : List ℕ) (es : List Entry) (e : Entry) → column_fault ed m t c l ≡ fine →
      signed (bits c) ≡ c → e ≡ record { cost = bits c; start = bodies_at n + t; size = l } → Back ed m n (t + l) cs ls es →
      Back ed m n t (c ∷ cs) (l ∷ ls) (e ∷ es)
  back_cons t c l cs ls es e p f is b = rw is (record {
    passing =
        fine-entry ed m n t (record { cost = bits c; start = bodies_at n + t; size = l }) es
        (record { column = rw f p; start = refl; rest = b.passing });
    costs = rw (f, b.costs);
    sizes = rw b.sizes;
  })

  columns_back : (t : ℕ) (cs : List ℤ) (ls : List ℕ) → length ls ≡ length cs → t ≤ 4096 → columns_fault ed m t cs ls ≡ fine →
      Back ed m n t cs ls (entries_of (length cs) (contents (bodies_at n + t) cs ls ++ rest))
  unfolding entries_of contents columns_fault entries_fault
  columns_back t [] [] e h p = record { passing = refl; costs = refl; sizes = refl }
  columns_back t [] (l ∷ ls) e h p = absurd (omega arith)
  columns_back t (c ∷ cs) [] e h p = absurd (omega arith)
  columns_back t (c ∷ cs) (l ∷ ls) e h p =
      let q = both _ _ p in
      let f : Column ed m t c l = column-fine ed m t c l q.0 in
      let size : l < 65536 = omega (arith, f.size.most, counts.rows.most) in
      let place : bodies_at n + t < 65536 = omega (arith, counts.columns.most) in
      let cost : SFits w32 c = cost-fits ed c f.cost in
      let later : bodies_at n + t + l ≡ bodies_at n + (t + l) = omega arith in
      back_cons t c l cs ls _ _ q.0 (to_z-of_z cost)
      (entry_back (bits c) (bodies_at n + t) l (contents (bodies_at n + t + l) cs ls ++ rest) (Fits-of_z {w = w32} cost).fits place size)
      (rw later (columns_back (t + l) cs ls (omega arith) f.total q.1))

pub length-contents : (a : ℕ) (cs : List ℤ) (ls : List ℕ) → length ls ≡ length cs → length (contents a cs ls) ≡ 8 * length cs
unfolding contents
length-contents a [] ls e = refl
length-contents a (c ∷ cs) [] e = absurd (omega arith)
length-contents a (c ∷ cs) (l ∷ ls) e = omega (arith, length-contents (a + l) cs ls (omega arith))

-- lists that pass
pub record Passing (d : Lists) : Type 0 where
  pub counts : Counts d.rows (length d.costs)
  pub same : length d.lengths ≡ length d.costs
  pub columns : columns_fault d.edition d.rows 0 d.costs d.lengths ≡ fine
  pub whole : length d.numbers ≡ sum d.lengths
  pub bodies : bodies_fault d.rows (Rattle.dutyfile.specs.File.bodies d.lengths d.numbers) ≡ fine

pub lists-fine : (d : Lists) → lists_fault d ≡ fine → Passing d
unfolding lists_fault numbers_fault
lists-fine d e =
    let a = both _ _ e in
    let b = both _ _ a.1 in
    let f = both _ _ b.1 in
    let g = both _ _ f.1 in
    record {
      counts = counts-fine _ _ a.0;
      same = eqb-true _ _ (asked _ 13 b.0);
      columns = f.0;
      whole = eqb-true _ _ (asked _ 13 g.0);
      bodies = g.1;
    }

pub length-render : (d : Lists) → length d.lengths ≡ length d.costs → length (render d) ≡ bodies_at (length d.costs) + length d.numbers
unfolding render header
length-render d e =
    let n : ℕ = length d.costs in
    simp length-append (omega (arith, length-contents (bodies_at n) d.costs d.lengths e))

module _ (d : Lists) (p : Passing d) where
  rows_back : rows_in (render d) ≡ d.rows
  unfolding render header
  rows_back = join16_split d.rows (omega (arith, p.counts.rows.most))

  columns-count : columns_in (render d) ≡ length d.costs
  unfolding render header
  columns-count = join16_split (length d.costs) (omega (arith, p.counts.columns.most))

  after-header : drop 8 (render d) ≡ contents (bodies_at (length d.costs)) d.costs d.lengths ++ d.numbers
  unfolding render header
  after-header = refl

  edition_back : edition_in (render d) ≡ d.edition
  unfolding render header same edition_in
  edition_back = go d.edition
    where
      go : (ed : Edition) → cond (same (magic ed) (magic Spp2)) Spp2 Spp1 ≡ ed
      go Spp1 = refl
      go Spp2 = refl

  marked_back : (same (take 4 (render d)) (magic Spp1) || same (take 4 (render d)) (magic Spp2)) ≡ true
  unfolding render header same
  marked_back = go d.edition
    where
      go : (ed : Edition) → (same (magic ed) (magic Spp1) || same (magic ed) (magic Spp2)) ≡ true
      go Spp1 = refl
      go Spp2 = refl

  entries_back : Back d.edition d.rows (length d.costs) 0 d.costs d.lengths (entries (render d))
  unfolding entries
  entries_back =
      let n : ℕ = length d.costs in
      rw (columns-count, after-header) (rw (add-zero (bodies_at n)) at (columns_back d.edition d.rows n p.counts d.numbers 0 d.costs d.lengths p.same (omega arith) p.columns))

  numbers_back : drop (bodies_at (columns_in (render d))) (render d) ≡ d.numbers
  numbers_back =
      let n : ℕ = length d.costs in
      rw columns-count
      (sym (drop-drop (8 * n) 8 (render d))
      ∙ ap (drop (8 * n)) after-header
      ∙ drop_at (contents (bodies_at n) d.costs d.lengths) d.numbers (8 * n) (length-contents (bodies_at n) d.costs d.lengths p.same))

  lists_back : parse (render d) ≡ d
  unfolding parse
  lists_back = rw (edition_back, rows_back, entries_back.costs, entries_back.sizes, numbers_back)

  rows-rise : rows_fault (render d) ≡ fine
  unfolding rows_fault
  rows-rise = rw (rows_back, lists_back) p.bodies

  file-passes : file_fault (render d) ≡ fine
  file-passes =
      let l = length-render d p.same in
      fine-file (render d) (record {
        walked = record {
          header = record {
            long = omega (arith, l);
            marked = marked_back;
            counts = rw (rows_back, columns-count) p.counts;
            contents = rw columns-count (omega (arith, l));
          };
          contents = rw (edition_back, rows_back, columns-count) entries_back.passing;
          end = rw (columns-count, lists_back) (omega (arith, l, p.whole));
        };
        rising = rows-rise;
      })

-- What the writer writes passes the reader's tests and holds the lists that were written.
pub record ReadsBack (d : Lists) : Type 0 where
  pub passes : file_fault (render d) ≡ fine
  pub lists : parse (render d) ≡ d

pub reads_back : (d : Lists) → Passing d → ReadsBack d
reads_back d p = record { passes = file-passes d p; lists = lists_back d p }

pub write_then_read : (d : Lists) (places written : ℕ) → writing d places ≡ accepted written → ReadsBack d
unfolding writing
write_then_read d places written e = reads_back d (lists-fine d (both _ _ (accepts _ _ _ e).0).0)

-- From a file to lists and back.

-- numbers of a byte each
abbrev pub Bytes : List ℕ → Type 0
Bytes s = (i : ℕ) → get_or s i 0 < 256

drop_bytes : (k : ℕ) (s : List ℕ) → Bytes s → Bytes (drop k s)
drop_bytes k s b i = rw (get_or-drop k s i 0) (b (k + i))

-- the first 8 numbers of a list, and the rest
front : (b : List ℕ) → 8 ≤ length b →
    b ≡ get_or b 0 0 ∷ get_or b 1 0 ∷ get_or b 2 0 ∷ get_or b 3 0 ∷ get_or b 4 0 ∷ get_or b 5 0 ∷ get_or b 6 0 ∷ get_or b 7 0 ∷ drop 8 b
front b h =
    drop-cons b 0 0 (omega arith)
    ∙ rw (drop-cons b 1 0 (omega arith), drop-cons b 2 0 (omega arith), drop-cons b 3 0 (omega arith), drop-cons b 4 0 (omega arith), drop-cons b 5 0 (omega arith), drop-cons b 6 0 (omega arith), drop-cons b 7 0 (omega arith))

joined : {p q r p' q' r' : List ℕ} (d : List ℕ) → p ≡ p' → q ≡ q' → r ≡ r' → p ++ q ++ r ++ d ≡ p' ++ q' ++ r' ++ d
joined d e f g = rw (e, f, g)

bits_bytes : (x y z w : ℕ) → x < 256 → y < 256 → z < 256 → w < 256 → bytes32 (bits (signed (word32 x y z w))) ≡ x ∷ y ∷ z ∷ w ∷ []
bits_bytes x y z w f g h i =
    ap bytes32 (of_z-to_z {w = w32} {n = word32 x y z w} (record { fits = omega arith })) ∙ split32_join x y z w f g h i

entry_bytes_lem : (b : List ℕ) → Bytes b → 8 ≤ length b →
    bytes32 (bits (signed (at32 b 0))) ++ bytes16 (at16 b 4) ++ bytes16 (at16 b 6) ++ drop 8 b ≡ b
entry_bytes_lem b k h =
    joined (drop 8 b) (bits_bytes _ _ _ _ (k 0) (k 1) (k 2) (k 3)) (split16_join _ _ (k 4) (k 5)) (split16_join _ _ (k 6) (k 7)) ∙ sym (front b h)

entries_bytes : (ed : Edition) (m n t k : ℕ) (b : List ℕ) → Bytes b → 8 * k ≤ length b → entries_fault ed m n t (entries_of k b) ≡ fine →
    contents (bodies_at n + t) (map cost_of (entries_of k b)) (map size_of (entries_of k b)) ++ drop (8 * k) b ≡ b
unfolding entries_of contents
entries_bytes ed m n t zero b y h p = refl
entries_bytes ed m n t (suc k) b y h p =
    let f = entry-fine ed m n t (entry_of b) (entries_of k (drop 8 b)) p in
    let z : ℕ = at16 b 6 in
    let here : bodies_at n + t + z ≡ bodies_at n + (t + z) = omega arith in
    let there : 8 * suc k ≡ 8 + 8 * k = omega arith in
    let rest = entries_bytes ed m n (t + z) k (drop 8 b) (drop_bytes 8 b y) (simp length-drop (omega arith)) f.rest in
    let next : contents (bodies_at n + t + z) (map cost_of (entries_of k (drop 8 b))) (map size_of (entries_of k (drop 8 b))) ++ drop (8 * suc k) b ≡ drop 8 b =
    rw (here, there, ← drop-drop (8 * k) 8 b) rest in
    ap (λ (r : List ℕ). bytes32 (bits (signed (at32 b 0))) ++ bytes16 (bodies_at n + t) ++ bytes16 z ++ r) next
    ∙ ap (λ (a : ℕ). bytes32 (bits (signed (at32 b 0))) ++ bytes16 a ++ bytes16 z ++ drop 8 b) (sym f.start)
    ∙ entry_bytes_lem b y (omega arith)

-- a file begins with what its edition says
begins_so : (s : List ℕ) → (same (take 4 s) (magic Spp1) || same (take 4 s) (magic Spp2)) ≡ true → same (take 4 s) (magic (edition_in s)) ≡ true
unfolding edition_in
begins_so s = go (same (take 4 s) (magic Spp2)) refl
  where
    go : (b : Bool) → same (take 4 s) (magic Spp2) ≡ b → (same (take 4 s) (magic Spp1) || b) ≡ true → same (take 4 s) (magic (cond b Spp2 Spp1)) ≡ true
    go true e h = e
    go false e h = rw or-false at h

header_bytes : (s : List ℕ) → Bytes s → 8 ≤ length s → same (take 4 s) (magic (edition_in s)) ≡ true →
    header (edition_in s) (rows_in s) (columns_in s) ++ drop 8 s ≡ s
unfolding header
header_bytes s k h e =
    let m : magic (edition_in s) ≡ get_or s 0 0 ∷ get_or s 1 0 ∷ get_or s 2 0 ∷ get_or s 3 0 ∷ [] =
    rw (first 0 (omega arith), first 1 (omega arith), first 2 (omega arith), first 3 (omega arith)) in
    joined (drop 8 s) m (split16_join _ _ (k 4) (k 5)) (split16_join _ _ (k 6) (k 7)) ∙ sym (front s h)
  where
    first : (i : ℕ) → i < 4 → get_or s i 0 ≡ get_or (magic (edition_in s)) i 0
    first i l = sym (get_or-take 4 s i 0 l) ∙ ap (λ b. get_or b i 0) (same_true _ _ e)

columns-pass : (ed : Edition) (m n t : ℕ) (es : List Entry) → entries_fault ed m n t es ≡ fine → columns_fault ed m t (map cost_of es) (map size_of es) ≡ fine
unfolding columns_fault
columns-pass ed m n t [] p = refl
columns-pass ed m n t (e ∷ es) p =
    let f = entry-fine ed m n t e es p in
    all_pass f.column (columns-pass ed m n (t + e.size) es f.rest)

-- the lists of a file that passes pass
pub lists-pass : (s : List ℕ) → Accepted s → lists_fault (parse s) ≡ fine
unfolding lists_fault numbers_fault counts_fault rows_fault parse
lists-pass s a =
    let h = a.walked.header in
    all_pass (rw (length-costs s) (all_pass (within-asks 1 64 _ 2 h.counts.rows) (within-asks 1 256 _ 2 h.counts.columns)))
    (all_pass (passes 13 (eq-eqb _ _ (length-lengths s ∙ sym (length-costs s))))
    (all_pass (columns-pass (edition_in s) (rows_in s) (columns_in s) 0 (entries s) a.walked.contents)
    (all_pass (passes 13 (eq-eqb _ _ (length-numbers s a.walked)))
    a.rising)))

module _ (s : List ℕ) (y : Bytes s) (a : Accepted s) where
  after_front : contents (bodies_at (columns_in s)) (parse s).costs (parse s).lengths ++ (parse s).numbers ≡ drop 8 s
  unfolding parse entries
  after_front =
      let n : ℕ = columns_in s in
      let room : 8 * n ≤ length (drop 8 s) = simp length-drop (omega (arith, a.walked.header.contents)) in
      rw (← drop-drop (8 * n) 8 s)
      (rw (add-zero (bodies_at n)) at (entries_bytes (edition_in s) (rows_in s) n 0 n (drop 8 s) (drop_bytes 8 s y) room a.walked.contents))

  bytes_back : render (parse s) ≡ s
  unfolding render header parse
  bytes_back =
      let h = a.walked.header in
      rw (length-costs s, after_front) (header_bytes s y h.long (begins_so s h.marked))

-- Writing the lists read from an accepted file passes the writer's tests and gives its bytes, all of them.
pub record WritesBack (s : List ℕ) : Type 0 where
  pub passes : lists_fault (parse s) ≡ fine
  pub bytes : render (parse s) ≡ s

pub read_then_write : (s : List ℕ) → Bytes s → (c l r : ℕ) (found : Shape) → reading s c l r ≡ accepted found → WritesBack s
unfolding reading
read_then_write s y c l r found e =
    let a = file-fine s (both _ _ (accepts _ _ _ e).0).0 in
    record { passes = lists-pass s a; bytes = bytes_back s y a }
