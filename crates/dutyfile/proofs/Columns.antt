-- A column of a file whose contents pass: its entry says its cost, and its body is the part of the file from the entry's start for its length.
use mathlib.Core.Path.{◌≡◌, refl, ap, sym, ◌∙◌}
use mathlib.Core.Bool.{true}
use mathlib.Core.List.{List, [], ◌∷◌, map}
use Prim.Native.Nat.{ℕ, zero, suc, ◌+◌, ◌-◌, ◌≤◌, ◌<◌}
use native.Mathlib.Nat.{add-zero}
use native.Mathlib.Omega.{arith}
use lib.IntN.{pos}
use lib.ListN.{length, get_or, take, drop, length-map, get_or-map}
use lib.Seq.{drop-drop}
use Rattle.refusals.specs.Refusals.{fine}
use Rattle.node.specs.Matrix.{width, body}
use Rattle.dutyfile.specs.declared.Edition.{Edition}
use Rattle.dutyfile.specs.declared.Entry.{Entry}
use Rattle.dutyfile.specs.File.{edition_in, rows_in, columns_in, bodies_at, entry_of, entries, cost_of, size_of, parse, sum, bodies, instance}
use Rattle.dutyfile.specs.Faults.{rising, is_cost, entries_fault, rows_fault}
use Rattle.dutyfile.proofs.Entries.{length-entries, length-lengths, entries_at}
use Rattle.dutyfile.proofs.Facts.{Within, Column, column-fine, entry-fine, Walked, Accepted}
use Rattle.dutyfile.proofs.Rising.{rising_wider, bodies-rise}

-- the rows of the first j bodies
abbrev before : ℕ → List Entry → ℕ
before j es = sum (take j (map size_of es))

-- entry j of entries that pass
record Placed (ed : Edition) (m n t j : ℕ) (es : List Entry) (e : Entry) : Type 0 where
  column : Column ed m (t + before j es) (cost_of e) e.size
  start : e.start ≡ bodies_at n + t + before j es
  within : before j es + e.size ≤ sum (map size_of es)

placed : (ed : Edition) (m n t j : ℕ) (es : List Entry) (d : Entry) → entries_fault ed m n t es ≡ fine → j < length es → Placed ed m n t j es (get_or es j d)
unfolding sum
placed ed m n t j [] d h l = absurd (omega arith)
placed ed m n t zero (e ∷ es) d h l =
    let f = entry-fine ed m n t e es h in
    record { column = rw add-zero (column-fine ed m t (cost_of e) e.size f.column); start = omega (arith, f.start); within = omega arith }
placed ed m n t (suc j) (e ∷ es) d h l =
    let f = entry-fine ed m n t e es h in
    let p = placed ed m n (t + e.size) j es d f.rest (omega arith) in
    let q : t + e.size + before j es ≡ t + (e.size + before j es) = omega arith in
    record { column = rw q at p.column; start = omega (arith, p.start); within = omega (arith, p.within) }

pub length-bodies : (ls rs : List ℕ) → length (bodies ls rs) ≡ length ls
unfolding bodies
length-bodies [] rs = refl
length-bodies (l ∷ ls) rs = ap suc (length-bodies ls (drop l rs))

pub file-width : (s : List ℕ) → width (instance (parse s)).matrix ≡ columns_in s
unfolding instance
file-width s = length-bodies (parse s).lengths (parse s).numbers ∙ length-lengths s

-- body j
pub body_at : (ls rs : List ℕ) (j : ℕ) → j < length ls → get_or (bodies ls rs) j [] ≡ take (get_or ls j 0) (drop (sum (take j ls)) rs)
unfolding bodies sum
body_at [] rs j h = absurd (omega arith)
body_at (l ∷ ls) rs zero h = refl
body_at (l ∷ ls) rs (suc j) h = body_at ls (drop l rs) j (omega arith) ∙ ap (take (get_or ls j 0)) (drop-drop (sum (take j ls)) l rs)

pub record ColumnAt (s : List ℕ) (j : ℕ) (e : Entry) : Type 0 where
  pub cost : get_or (parse s).costs j (pos 0) ≡ cost_of e
  pub size : get_or (parse s).lengths j 0 ≡ e.size
  pub body : get_or (bodies (parse s).lengths (parse s).numbers) j [] ≡ take e.size (drop e.start s)
  pub inside : e.start + e.size ≤ length s
  pub cheap : is_cost (edition_in s) (cost_of e) ≡ true
  pub sized : Within 1 (rows_in s) e.size

pub column-at : (s : List ℕ) → Walked s → (j : ℕ) → j < columns_in s → ColumnAt s j (entry_of (drop (bodies_at j) s))
unfolding parse
column-at s w j h = go (entry_of (drop (bodies_at j) s)) (entries_at s j (entry_of []) h)
  where
    go : (e : Entry) → get_or (entries s) j (entry_of []) ≡ e → ColumnAt s j e
    go e is =
        let p : Placed (edition_in s) (rows_in s) (columns_in s) 0 j (entries s) e =
        rw is at (placed (edition_in s) (rows_in s) (columns_in s) 0 j (entries s) (entry_of []) w.contents (rw (length-entries s) h)) in
        let z : get_or (map size_of (entries s)) j 0 ≡ e.size = get_or-map size_of (entries s) j (entry_of []) ∙ ap size_of is in
        record {
          cost = get_or-map cost_of (entries s) j (entry_of []) ∙ ap cost_of is;
          size = z;
          body =
              let a : bodies_at (columns_in s) + before j (entries s) ≡ e.start = omega (arith, p.start) in
              body_at (map size_of (entries s)) (drop (bodies_at (columns_in s)) s) j (rw (length-map (entries s) size_of, length-entries s) h)
              ∙ rw (z, drop-drop (before j (entries s)) (bodies_at (columns_in s)) s, a);
          inside = omega (arith, p.start, p.within, w.end);
          cheap = p.column.cost;
          sized = p.column.size;
        }

module _ (s : List ℕ) (a : Accepted s) where
  -- each body rises within 64 rows
  pub body-rises : (j : ℕ) → rising 0 64 (body (instance (parse s)).matrix j) ≡ true
  unfolding instance rows_fault
  body-rises j =
      rising_wider 0 (rows_in s) 64 _ (bodies-rise (rows_in s) (bodies (parse s).lengths (parse s).numbers) j a.rising) a.walked.header.counts.rows.most

  -- and is the part of the file between the places that its entry names
  pub part_is : (j : ℕ) (e : Entry) → j < columns_in s → e ≡ entry_of (drop (bodies_at j) s) →
      take (e.start + e.size - e.start) (drop e.start s) ≡ body (instance (parse s)).matrix j
  unfolding instance
  part_is j e h is =
      let z : e.start + e.size - e.start ≡ e.size = omega arith in
      let c : ColumnAt s j e = rw is (column-at s a.walked j h) in
      rw z (sym c.body)
