-- What is put into the list, one after another: what is left to put gives what all of it gives.
use mathlib.Core.Path.{◌≡◌, refl, ap, sym, ◌∙◌}
use mathlib.Core.List.{List, [], ◌∷◌, map}
use Prim.Native.Nat.{ℕ, suc, ◌+◌, ◌-◌, ◌≤◌, ◌<◌}
use native.Mathlib.Nat.{add-zero}
use native.Mathlib.Numerals.{add-one}
use native.Mathlib.Omega.{arith}
use lib.ListN.{length, get_or, set, take, drop, drop_of_length-le, length-take, length-drop}
use lib.Seq.{sets, drop-cons}
use Rattle.node.specs.Lists.{from}
use Rattle.node.specs.Stored.{Body}
use Rattle.node.proofs.Loops.{drop-step, from_next}
use Rattle.dutyfile.specs.File.{sum, bodies}
use Rattle.dutyfile.proofs.Columns.{length-bodies, body_at}
use Rattle.matrix.specs.Build.{put, size, marked, all_marked, marks_of, all_marks, Room}
use Rattle.matrix.proofs.Sums.{sum_more, sum_take_le}

-- at row number k of a body
pub record Copying (rs l₀ : List ℕ) (at : ℕ) (l : List ℕ) (k : ℕ) : Type 0 where
  pub left : sets l (at + k) (drop k rs) ≡ sets l₀ at rs

pub copying_start : (rs l : List ℕ) (at : ℕ) → Copying rs l at l 0
copying_start rs l at = record { left = rw add-zero }

module _ (rs l₀ : List ℕ) (at : ℕ) (l : List ℕ) (k : ℕ) (w : Copying rs l₀ at l k) where
  pub copying_next : k < length rs → Copying rs l₀ at (set l (at + k) (get_or rs k 0)) (k + 1)
  copying_next h =
      let e : at + (k + 1) ≡ suc (at + k) = omega arith in
      record { left = rw e (sym (ap (sets l (at + k)) (drop-step rs k h)) ∙ w.left) }

  pub copying_end : length rs ≤ k → l ≡ sets l₀ at rs
  copying_end h = sym (ap (sets l (at + k)) (drop_of_length-le rs h)) ∙ w.left

-- at column j
pub record Putting (lengths numbers matrix₀ cover₀ matrix cover : List ℕ) (start j : ℕ) : Type 0 where
  pub given : Room lengths numbers
  pub within : j ≤ length lengths
  pub start_is : start ≡ sum (take j lengths)
  pub small : start ≤ 4096
  pub left : put matrix (67 + j) (324 + start) (drop j (bodies lengths numbers)) ≡ put matrix₀ 67 324 (bodies lengths numbers)
  pub unmarked : all_marked j (drop j (bodies lengths numbers)) cover ≡ all_marked 0 (bodies lengths numbers) cover₀

pub putting_start : (lengths numbers matrix cover : List ℕ) → Room lengths numbers → Putting lengths numbers matrix cover matrix cover 0 0
unfolding sum
putting_start lengths numbers matrix cover r =
    record { given = r; within = omega arith; start_is = refl; small = omega arith; left = refl; unmarked = refl }

-- the part of the row numbers that is body j
abbrev part : List ℕ → List ℕ → ℕ → ℕ → List ℕ
part lengths numbers start j = take (start + get_or lengths j 0 - start) (drop start numbers)

pub record PartOf (lengths numbers : List ℕ) (start j : ℕ) : Type 0 where
  pub column : j < 256
  pub small : start + get_or lengths j 0 ≤ 4096
  pub inside : start + get_or lengths j 0 ≤ length numbers
  pub is : part lengths numbers start j ≡ get_or (bodies lengths numbers) j []
  pub long : length (part lengths numbers start j) ≡ get_or lengths j 0
  pub room : 324 + start + length (part lengths numbers start j) ≤ 8516
  pub rows : Body (part lengths numbers start j)

module _ (lengths numbers matrix₀ cover₀ matrix cover : List ℕ) (start j : ℕ)
    (w : Putting lengths numbers matrix₀ cover₀ matrix cover start j) where
  abbrev bs : List (List ℕ)
  bs = bodies lengths numbers

  module _ (here : j < length lengths) where
    pub putting_part : PartOf lengths numbers start j
    putting_part =
        let l : ℕ = get_or lengths j 0 in
        let more : sum (take (j + 1) lengths) ≡ start + l = omega (arith, w.start_is, sum_more lengths j here) in
        let inside : start + l ≤ length numbers = omega (arith, sum_take_le lengths (j + 1), w.given.numbers_long) in
        let small : start + l ≤ 4096 = omega (arith, w.given.full, w.given.numbers_long) in
        let e : start + l - start ≡ l = omega arith in
        let is : part lengths numbers start j ≡ get_or bs j [] = rw (e, w.start_is) (sym (body_at lengths numbers j here)) in
        let long : length (part lengths numbers start j) ≡ l = simp (length-take, length-drop) (omega arith) in
        record {
          column = omega (arith, w.given.few);
          small = small;
          inside = inside;
          is = is;
          long = long;
          room = omega arith;
          rows = rw is (w.given.rows j here);
        }

    rest-is : drop j bs ≡ get_or bs j [] ∷ drop (j + 1) bs
    rest-is = rw (add-one j) (drop-cons bs j [] (rw (length-bodies lengths numbers) here))

    pub putting_next : (m c : List ℕ) → m ≡ sets (set matrix (67 + j) (324 + start)) (324 + start) (part lengths numbers start j) →
        c ≡ marked j (part lengths numbers start j) cover → Putting lengths numbers matrix₀ cover₀ m c (start + get_or lengths j 0) (j + 1)
    unfolding put all_marked
    putting_next m c em ec =
        let q = putting_part in
        let e : 67 + (j + 1) ≡ suc (67 + j) = omega arith in
        let f : 324 + (start + get_or lengths j 0) ≡ 324 + start + length (get_or bs j []) = omega (arith, q.long, ap length q.is) in
        record {
          given = w.given;
          within = omega arith;
          start_is = omega (arith, w.start_is, sum_more lengths j here);
          small = q.small;
          left = rw (em, q.is, e, f) (sym (ap (put matrix (67 + j) (324 + start)) rest-is) ∙ w.left);
          unmarked =
              rw (ec, q.is) (ap (λ (k : ℕ). all_marked k (drop (j + 1) bs) (marked j (get_or bs j []) cover)) (add-one j)
              ∙ sym (ap (λ (x : List (List ℕ)). all_marked j x cover) rest-is)
              ∙ w.unmarked);
        }

  module _ (h : length lengths ≤ j) where
    none : drop j bs ≡ []
    none = let n : length bs ≤ j = omega (arith, length-bodies lengths numbers) in drop_of_length-le bs n

    pub putting_end : (set matrix (67 + length lengths) (324 + start) ≡ put matrix₀ 67 324 bs) × (cover ≡ all_marked 0 bs cover₀)
    unfolding put all_marked
    putting_end =
        let e : length lengths ≡ j = omega (arith, w.within) in (
          rw e (sym (ap (put matrix (67 + j) (324 + start)) none) ∙ w.left),
          sym (ap (λ (x : List (List ℕ)). all_marked j x cover) none) ∙ w.unmarked,
        )

-- the rows from i on
abbrev left-rows : List ℕ → ℕ → ℕ → ℕ → List (List ℕ)
left-rows cover columns rows i = map (marks_of cover columns) (from (rows - i) i)

-- at row i
pub record PuttingRows (cover : List ℕ) (columns rows : ℕ) (matrix₀ : List ℕ) (at : ℕ) (matrix : List ℕ) (end i : ℕ) : Type 0 where
  pub few : columns ≤ 256
  pub low : rows ≤ 64
  pub within : i ≤ rows
  pub left : put matrix (2 + i) end (left-rows cover columns rows i) ≡ put matrix₀ 2 at (all_marks cover columns rows)
  pub room : end + size (left-rows cover columns rows i) ≤ 8516

module _ (cover : List ℕ) (columns rows : ℕ) (matrix₀ : List ℕ) (at : ℕ) (matrix : List ℕ) (end i : ℕ)
    (w : PuttingRows cover columns rows matrix₀ at matrix end i) where
  module _ (here : i < rows) where
    more_rows : left-rows cover columns rows i ≡ marks_of cover columns i ∷ left-rows cover columns rows (i + 1)
    more_rows = rw (from_next rows i here)

    pub rows-room : (columns ≤ 256) × (i < 64) × (end + length (marks_of cover columns i) ≤ 8516)
    unfolding sum
    rows-room = (w.few, omega (arith, w.low), omega (arith, w.room, ap size more_rows))

    pub rows_next : (next : ℕ) (m : List ℕ) → next ≡ end + length (marks_of cover columns i) →
        m ≡ sets (set matrix (2 + i) end) end (marks_of cover columns i) → PuttingRows cover columns rows matrix₀ at m next (i + 1)
    unfolding put sum
    rows_next next m en em =
        let e : 2 + (i + 1) ≡ suc (2 + i) = omega arith in
        record {
          few = w.few;
          low = w.low;
          within = omega arith;
          left = rw (em, en, e) (sym (ap (put matrix (2 + i) end) more_rows) ∙ w.left);
          room = omega (arith, w.room, ap size more_rows);
        }

  pub rows_end : rows ≤ i → set matrix (2 + rows) end ≡ put matrix₀ 2 at (all_marks cover columns rows)
  unfolding put from
  rows_end h =
      let e : rows ≡ i = omega (arith, w.within) in
      let z : rows - i ≡ 0 = omega arith in
      let n : left-rows cover columns rows i ≡ [] = rw z in
      ap (λ (k : ℕ). set matrix (2 + k) end) e ∙ sym (ap (put matrix (2 + i) end) n) ∙ w.left
