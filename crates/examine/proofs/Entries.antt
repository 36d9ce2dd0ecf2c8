-- The walk over the contents: the entries that are left, with the rows so far, come to what the whole contents come to.
use mathlib.Core.Path.{◌≡◌, ap, sym, ◌∙◌}
use mathlib.Core.List.{List, [], ◌∷◌, map}
use Prim.Native.Nat.{ℕ, ◌+◌, ◌≤◌, ◌<◌}
use native.Mathlib.Nat.{add_assoc, add-zero, zero-add}
use native.Mathlib.Omega.{arith}
use lib.ListN.{drop}
use Rattle.refusals.specs.Refusals.{fine, fault, Outcome, accepted, refused, unless}
use Rattle.refusals.proofs.Laws.{both, outcome_stops, outcome_goes_on}
use Rattle.dutyfile.specs.declared.Edition.{Edition}
use Rattle.dutyfile.specs.declared.Entry.{Entry}
use Rattle.dutyfile.specs.File.{edition_in, rows_in, columns_in, bodies_at, entry_of, entries, cost_of, size_of, parse, sum}
use Rattle.dutyfile.specs.Faults.{header_fault, contents_fault, entry_fault, entries_fault}
use Rattle.dutyfile.proofs.Entries.{entries-step, entries-end}
use Rattle.dutyfile.proofs.Facts.{Header, header-fine, column-fine}

-- what entries come to, after bodies with t rows
unfoldable pub walk : Edition → ℕ → ℕ → ℕ → List Entry → Outcome ℕ
walk ed m n t es = unless (entries_fault ed m n t es) (t + sum (map size_of es))

walk_all : (s : List ℕ) → walk (edition_in s) (rows_in s) (columns_in s) 0 (entries s) ≡ unless (contents_fault s) (sum (parse s).lengths)
unfolding walk contents_fault parse
walk_all s = rw zero-add

module _ (ed : Edition) (m n t : ℕ) (e : Entry) (es : List Entry) where
  walk-stop : (k : ℕ) → entry_fault ed m n t e ≡ fault k → walk ed m n t (e ∷ es) ≡ refused k
  unfolding walk entries_fault unless
  walk-stop k h = outcome_stops _ _ k h

  walk_next : entry_fault ed m n t e ≡ fine → walk ed m n t (e ∷ es) ≡ walk ed m n (t + e.size) es
  unfolding walk entries_fault sum
  walk_next h = outcome_goes_on _ _ h ∙ rw add_assoc

walk_end : (ed : Edition) (m n t : ℕ) → walk ed m n t [] ≡ accepted t
unfolding walk entries_fault sum unless
walk_end ed m n t = rw add-zero

-- at entry j
pub record Walking (s : List ℕ) (edition : Edition) (rows columns total j : ℕ) : Type 0 where
  pub header : Header s
  pub edition_is : edition ≡ edition_in s
  pub rows_is : rows ≡ rows_in s
  pub columns_is : columns ≡ columns_in s
  pub within : j ≤ columns
  pub small : total ≤ 4096
  pub left : walk edition rows columns total (drop j (entries s)) ≡ unless (contents_fault s) (sum (parse s).lengths)

pub walking_start : (s : List ℕ) (edition : Edition) (rows columns : ℕ) → header_fault s ≡ fine → edition ≡ edition_in s → rows ≡ rows_in s → columns ≡ columns_in s → Walking s edition rows columns 0 0
walking_start s edition rows columns h i r c = record {
  header = header-fine s h;
  edition_is = i;
  rows_is = r;
  columns_is = c;
  within = omega arith;
  small = omega arith;
  left = rw (i, r, c) (walk_all s);
}

module _ (s : List ℕ) (edition : Edition) (rows columns total j : ℕ) (w : Walking s edition rows columns total j) where
  module _ (inside : j < columns) (e : Entry) (is : e ≡ entry_of (drop (bodies_at j) s)) where
    here : drop j (entries s) ≡ e ∷ drop (j + 1) (entries s)
    here = rw is (entries-step s j (rw w.columns_is at inside))

    pub walking_stop : (k : ℕ) → entry_fault edition rows columns total e ≡ fault k → refused k ≡ unless (contents_fault s) (sum (parse s).lengths)
    walking_stop k h = sym (sym w.left ∙ rw here (walk-stop edition rows columns total e (drop (j + 1) (entries s)) k h))

    pub walking_next : entry_fault edition rows columns total e ≡ fine → Walking s edition rows columns (total + e.size) (j + 1)
    unfolding entry_fault
    walking_next h = record {
      header = w.header;
      edition_is = w.edition_is;
      rows_is = w.rows_is;
      columns_is = w.columns_is;
      within = omega arith;
      small = (column-fine edition rows total (cost_of e) e.size (both _ _ h).0).total;
      left = sym (walk_next edition rows columns total e (drop (j + 1) (entries s)) h) ∙ ap (walk edition rows columns total) (sym here) ∙ w.left;
    }

  pub walking_end : columns ≤ j → accepted total ≡ unless (contents_fault s) (sum (parse s).lengths)
  walking_end h = sym (sym w.left ∙ ap (walk edition rows columns total) (entries-end s j (rw w.columns_is at h)) ∙ walk_end edition rows columns total)
