-- What it means that the tests pass: the facts about the numbers, and back.
use mathlib.Core.Path.{◌≡◌, ◌∙◌}
use mathlib.Core.Bool.{true, ◌||◌}
use mathlib.Core.List.{List, [], ◌∷◌, map}
use Prim.Native.Nat.{ℕ, ◌+◌, ◌≤◌}
use native.Mathlib.Omega.{arith}
use lib.Dec.{leb}
use lib.IntN.{ℤ}
use lib.ListN.{length, take, length-drop}
use borrow.Author.Tests.{leb-true, eqb-true, le-leb, eq-eqb}
use Rattle.endian.specs.Bytes.{same}
use Rattle.refusals.specs.Refusals.{Fault, fine, ask, ◌then◌}
use Rattle.refusals.proofs.Laws.{both, asked, goes_on, passes}
use Rattle.node.proofs.Members.{and_both}
use Rattle.dutyfile.specs.declared.Edition.{Edition}
use Rattle.dutyfile.specs.declared.Edition.TheVariants.{Spp1, Spp2}
use Rattle.dutyfile.specs.declared.Entry.{Entry}
use Rattle.dutyfile.specs.File.{magic, edition_in, rows_in, columns_in, bodies_at, entries, cost_of, size_of, parse, sum}
use Rattle.dutyfile.specs.Faults.{within, is_cost, counts_fault, column_fault, columns_fault, entry_fault, entries_fault, header_fault, contents_fault, end_fault, rows_fault, file_fault}

pub all_pass : {a b : Fault} → a ≡ fine → b ≡ fine → (a then b) ≡ fine
all_pass {b = b} e f = goes_on b e ∙ f

-- a number in its range
pub record Within (low high x : ℕ) : Type 0 where
  pub least : low ≤ x
  pub most : x ≤ high

pub ask-within : (low high x k : ℕ) → ask (within low high x) k ≡ fine → Within low high x
ask-within low high x k e =
    let t = and_both {a = leb low x} {b = leb x high} (asked (within low high x) k e) in
    record { least = leb-true low x t.0; most = leb-true x high t.1 }

pub within-asks : (low high x k : ℕ) → Within low high x → ask (within low high x) k ≡ fine
unfolding ask
within-asks low high x k w = simp (le-leb _ _ w.least, le-leb _ _ w.most)

-- the numbers of rows and columns
pub record Counts (m n : ℕ) : Type 0 where
  pub rows : Within 1 64 m
  pub columns : Within 1 256 n

pub counts-fine : (m n : ℕ) → counts_fault m n ≡ fine → Counts m n
unfolding counts_fault
counts-fine m n e =
    let b = both _ _ e in
    record { rows = ask-within 1 64 m 2 b.0; columns = ask-within 1 256 n 2 b.1 }

-- a column
pub record Column (ed : Edition) (m t : ℕ) (c : ℤ) (l : ℕ) : Type 0 where
  pub cost : is_cost ed c ≡ true
  pub size : Within 1 m l
  pub total : t + l ≤ 4096

pub column-fine : (ed : Edition) (m t : ℕ) (c : ℤ) (l : ℕ) → column_fault ed m t c l ≡ fine → Column ed m t c l
unfolding column_fault
column-fine ed m t c l e =
    let b = both _ _ e in
    let d = both _ _ b.1 in
    record { cost = asked _ 4 b.0; size = ask-within 1 m l 5 d.0; total = leb-true _ _ (asked _ 6 d.1) }

-- an entry, and the entries after it
pub record Entered (ed : Edition) (m n t : ℕ) (e : Entry) (es : List Entry) : Type 0 where
  pub column : column_fault ed m t (cost_of e) e.size ≡ fine
  pub start : e.start ≡ bodies_at n + t
  pub rest : entries_fault ed m n (t + e.size) es ≡ fine

pub entry-fine : (ed : Edition) (m n t : ℕ) (e : Entry) (es : List Entry) → entries_fault ed m n t (e ∷ es) ≡ fine → Entered ed m n t e es
unfolding entries_fault entry_fault
entry-fine ed m n t e es h =
    let b = both _ _ h in
    let d = both _ _ b.0 in
    record { column = d.0; start = eqb-true _ _ (asked _ 7 d.1); rest = b.1 }

pub fine-entry : (ed : Edition) (m n t : ℕ) (e : Entry) (es : List Entry) → Entered ed m n t e es → entries_fault ed m n t (e ∷ es) ≡ fine
unfolding entries_fault entry_fault
fine-entry ed m n t e es h = all_pass (all_pass h.column (passes 7 (eq-eqb _ _ h.start))) h.rest

-- entries that pass have at most 4,096 rows in all
pub entries-small : (ed : Edition) (m n t : ℕ) (es : List Entry) → entries_fault ed m n t es ≡ fine → t ≤ 4096 → t + sum (map size_of es) ≤ 4096
unfolding sum
entries-small ed m n t [] p h = omega arith
entries-small ed m n t (e ∷ es) p h =
    let f = entry-fine ed m n t e es p in
    omega (arith, entries-small ed m n (t + e.size) es f.rest (column-fine ed m t (cost_of e) e.size f.column).total)

-- columns that pass have at most 4,096 rows in all
pub columns-small : (ed : Edition) (m t : ℕ) (cs : List ℤ) (ls : List ℕ) → length ls ≡ length cs → t ≤ 4096 → columns_fault ed m t cs ls ≡ fine → t + sum ls ≤ 4096
unfolding sum columns_fault
columns-small ed m t [] [] e h p = omega arith
columns-small ed m t [] (l ∷ ls) e h p = absurd (omega arith)
columns-small ed m t (c ∷ cs) [] e h p = absurd (omega arith)
columns-small ed m t (c ∷ cs) (l ∷ ls) e h p =
    let b = both _ _ p in
    omega (arith, columns-small ed m (t + l) cs ls (omega arith) (column-fine ed m t c l b.0).total b.1)

-- the header
pub record Header (s : List ℕ) : Type 0 where
  pub long : 8 ≤ length s
  pub marked : (same (take 4 s) (magic Spp1) || same (take 4 s) (magic Spp2)) ≡ true
  pub counts : Counts (rows_in s) (columns_in s)
  pub contents : bodies_at (columns_in s) ≤ length s

pub header-fine : (s : List ℕ) → header_fault s ≡ fine → Header s
unfolding header_fault
header-fine s e =
    let a = both _ _ e in
    let b = both _ _ a.1 in
    let d = both _ _ b.1 in
    record {
      long = leb-true _ _ (asked _ 1 a.0);
      marked = asked _ 1 b.0;
      counts = counts-fine _ _ d.0;
      contents = leb-true _ _ (asked _ 3 d.1);
    }

-- the header and the contents, with the file's length as they say
pub record Walked (s : List ℕ) : Type 0 where
  pub header : Header s
  pub contents : entries_fault (edition_in s) (rows_in s) (columns_in s) 0 (entries s) ≡ fine
  pub end : length s ≡ bodies_at (columns_in s) + sum (parse s).lengths

pub walk_fine : (s : List ℕ) → header_fault s ≡ fine → contents_fault s ≡ fine → end_fault s ≡ fine → Walked s
unfolding contents_fault end_fault
walk_fine s h c e = record { header = header-fine s h; contents = c; end = eqb-true _ _ (asked _ 8 e) }

pub contents-small : (s : List ℕ) → contents_fault s ≡ fine → sum (parse s).lengths ≤ 4096
unfolding contents_fault parse
contents-small s c = omega (arith, entries-small (edition_in s) (rows_in s) (columns_in s) 0 (entries s) c (omega arith))

-- there are as many row numbers as the lengths say
pub length-numbers : (s : List ℕ) → Walked s → length (parse s).numbers ≡ sum (parse s).lengths
unfolding parse
length-numbers s w = simp length-drop (omega (arith, w.end))

-- an accepted file
pub record Accepted (s : List ℕ) : Type 0 where
  pub walked : Walked s
  pub rising : rows_fault s ≡ fine

pub file-fine : (s : List ℕ) → file_fault s ≡ fine → Accepted s
unfolding file_fault
file-fine s e =
    let a = both _ _ e in
    let b = both _ _ a.1 in
    let d = both _ _ b.1 in
    record { walked = walk_fine s a.0 b.0 d.0; rising = d.1 }

pub fine-file : (s : List ℕ) → Accepted s → file_fault s ≡ fine
unfolding file_fault header_fault counts_fault contents_fault end_fault
fine-file s a =
    let h = a.walked.header in
    all_pass
    (all_pass (passes 1 (le-leb _ _ h.long))
    (all_pass (passes 1 h.marked)
    (all_pass (all_pass (within-asks 1 64 _ 2 h.counts.rows) (within-asks 1 256 _ 2 h.counts.columns))
    (passes 3 (le-leb _ _ h.contents)))))
    (all_pass a.walked.contents
    (all_pass (passes 8 (eq-eqb _ _ a.walked.end))
    a.rising))
