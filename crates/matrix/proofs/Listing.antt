-- The list that is built keeps the matrix that the lists state.
use mathlib.Core.Path.{◌≡◌, refl, sym, ◌∙◌}
use mathlib.Core.List.{List, [], map}
use Prim.Native.Nat.{ℕ, zero, suc, ◌+◌, ◌≤◌, ◌<◌}
use native.Mathlib.Nat.{zero-add}
use native.Mathlib.Omega.{arith}
use lib.ListN.{length, get_or, set, replicate, length-set, length-map}
use lib.Seq.{ext_get_or, get_or-set_same, get_or-set_other}
use Rattle.node.specs.Lists.{from, upto}
use Rattle.node.specs.Matrix.{Matrix, width, body}
use Rattle.node.specs.Stored.{matrix_in, row_columns}
use Rattle.node.proofs.Members.{length_from}
use Rattle.node.proofs.Parts.{rows_in_lem, width_in, body_in_lem, body-rows, map_at}
use Rattle.rules.proofs.Sums.{total_cong}
use Rattle.dutyfile.specs.File.{bodies}
use Rattle.dutyfile.proofs.Columns.{length-bodies}
use Rattle.matrix.specs.Build.{put, size, all_marked, marks_of, all_marks, Room, RowRoom}
use Rattle.matrix.specs.Stated.{stated, Statable, Holds}
use Rattle.matrix.proofs.Sums.{size-map, total_size, bodies-size}
use Rattle.matrix.proofs.Parts.{rows-full}
use Rattle.matrix.proofs.Covered.{marks-row}
use Rattle.matrix.proofs.Laid.{put-length, put_aside, Laid, laid_part, laid_is, laid_aside, put_part}

length-rows : (f : ℕ → List ℕ) (n : ℕ) → length (map f (upto n)) ≡ n
length-rows f n = length-map (upto n) f ∙ length_from n 0

map_cong : (f g : ℕ → List ℕ) (n k : ℕ) → ((i : ℕ) → i < k + n → f i ≡ g i) → map f (from n k) ≡ map g (from n k)
unfolding from
map_cong f g zero k h = refl
map_cong f g (suc n) k h = rw (h k (omega arith), map_cong f g n (suc k) (λ i l. h i (omega arith)))

module _ (rows : ℕ) (lengths numbers : List ℕ) (s : Statable rows lengths numbers) where
  abbrev p : Matrix
  p = stated rows lengths numbers

  wide_is : width p ≡ length lengths
  wide_is = length-bodies lengths numbers

  full : (length numbers ≡ size p.bodies) × (length numbers ≤ 4096)
  full = (
    s.numbers_long ∙ sym (bodies-size lengths numbers s.numbers_long),
    omega (arith, s.numbers_long, bodies-size lengths numbers s.numbers_long, total_size p.bodies, s.small.full),
  )

  pub list_room : Room lengths numbers
  list_room = record {
    few = omega (arith, wide_is, s.small.fits.wide);
    full = omega (arith, full.1, s.numbers_long);
    numbers_long = s.numbers_long;
    rows = λ j h. body-rows p s.small j (rw wide_is h);
  }

  -- the columns of each row
  abbrev rs : List (List ℕ)
  rs = map (row_columns p) (upto rows)

  rows-size : size rs ≤ 4096
  rows-size = omega (
    arith,
    rows-full p s.small,
    size-map (row_columns p) rows 0,
    total_cong rows (λ i. length (row_columns p (0 + i))) (λ i. length (row_columns p i)) (λ i l. rw zero-add),
  )

  module _ (cover : List ℕ) (c : cover ≡ all_marked 0 (bodies lengths numbers) (replicate 16384 0)) where
    rows_are : all_marks cover (length lengths) rows ≡ rs
    rows_are = map_cong (marks_of cover (length lengths)) (row_columns p) rows 0
        (λ i h. rw (← wide_is) (marks-row p cover s.small.fits.wide (λ k m. body-rows p s.small k m) c i (omega (arith, s.small.fits.tall))))

    pub row_room : RowRoom cover (length lengths) rows (324 + length numbers)
    row_room = record {
      few = omega (arith, wide_is, s.small.fits.wide);
      low = s.small.fits.tall;
      full = rw rows_are (omega (arith, rows-size, full.1));
    }

  module _ (l : List ℕ) (long : length l ≡ 8516) where
    -- the list with the numbers of rows and columns, then with the bodies, then with the rows
    abbrev base : List ℕ
    base = set (set l 0 rows) 1 (length lengths)

    abbrev a : List ℕ
    a = put base 67 324 p.bodies

    abbrev r : List ℕ
    r = put a 2 (324 + length numbers) rs

    lengths_are : (length base ≡ 8516) × (length a ≡ 8516) × (length r ≡ 8516)
    lengths_are =
        let x : length base ≡ 8516 = length-set (set l 0 rows) 1 (length lengths) ∙ length-set l 0 rows ∙ long in
        let y : length a ≡ 8516 = put-length p.bodies base 67 324 ∙ x in
        (x, y, put-length rs a 2 (324 + length numbers) ∙ y)

    -- the numbers of rows and columns
    front : (i : ℕ) → i < 2 → get_or r i 0 ≡ get_or base i 0
    front i h =
        put_aside rs a 2 (324 + length numbers) i (record { off = λ g. absurd (omega arith); below = omega arith })
        ∙ put_aside p.bodies base 67 324 i (record { off = λ g. absurd (omega arith); below = omega arith })

    tall_in : get_or r 0 0 ≡ rows
    tall_in =
        front 0 (omega arith) ∙ get_or-set_other (set l 0 rows) 1 0 (length lengths) 0 (λ e. omega arith) ∙ get_or-set_same l 0 rows 0 (omega arith)

    wide_in : get_or r 1 0 ≡ width p
    wide_in = front 1 (omega arith) ∙ get_or-set_same (set l 0 rows) 1 (length lengths) 0 (omega (arith, length-set l 0 rows)) ∙ sym wide_is

    column_laid : (j : ℕ) → j < width p → Laid r (67 + j) (body p j) 324 (324 + size p.bodies)
    column_laid j h =
        let t = s.small.fits.tall in
        let w = s.small.fits.wide in
        let n : length rs ≡ rows = length-rows (row_columns p) rows in
        laid_aside rs a 2 (324 + length numbers) (67 + j) (body p j) 324 (324 + size p.bodies)
        (put_part p.bodies base 67 324 j h (omega arith) (omega (arith, lengths_are.0, full.0, full.1)))
        (record { off = λ g. omega arith; below = omega arith })
        (record { off = λ g. omega arith; below = omega arith })
        (omega arith)
        (omega (arith, full.0))

    row_laid : (i : ℕ) → i < rows → Laid r (2 + i) (row_columns p i) (324 + length numbers) (324 + length numbers + size rs)
    row_laid i h =
        let t = s.small.fits.tall in
        let n : length rs ≡ rows = length-rows (row_columns p) rows in
        let e : get_or rs i [] ≡ row_columns p i = map_at (row_columns p) rows 0 i h ∙ rw zero-add in
        rw e at (put_part rs a 2 (324 + length numbers) i (omega arith) (omega arith) (omega (arith, lengths_are.1, rows-size, full.1)))

    column-room : 324 + size p.bodies ≤ length r
    column-room = omega (arith, full.0, full.1, lengths_are.2)

    end-room : 324 + length numbers + size rs ≤ length r
    end-room = omega (arith, full.1, rows-size, lengths_are.2)

    matrix_is : matrix_in r ≡ p
    matrix_is =
        let w : width (matrix_in r) ≡ width p = width_in r ∙ wide_in in
        same (matrix_in r) (sym (rows_in_lem r) ∙ tall_in) (ext_get_or [] (matrix_in r).bodies p.bodies w
        (λ j h. let q : j < width p = omega arith in
        sym (body_in_lem r j h) ∙ laid_is r (67 + j) (body p j) 324 (324 + size p.bodies) (column_laid j q) column-room))
      where
        same : (m : Matrix) → m.rows ≡ p.rows → m.bodies ≡ p.bodies → m ≡ p
        same m e f = go m.rows m.bodies e f
          where
            go : (k : ℕ) (bs : List (List ℕ)) → k ≡ p.rows → bs ≡ p.bodies → record { rows = k; bodies = bs } ≡ p
            go k bs e f = rw (e, f)

    laid_holds : Holds r p
    laid_holds = record {
      kept = record {
        long = omega (arith, lengths_are.2);
        small = rw matrix_is s.small;
        column = rw matrix_is (λ j h. laid_part r (67 + j) (body p j) 324 (324 + size p.bodies) (column_laid j h) column-room);
        row = rw matrix_is (λ i h. laid_part r (2 + i) (row_columns p i) (324 + length numbers) (324 + length numbers + size rs) (row_laid i h) end-room);
        agrees = rw matrix_is (λ i h. laid_is r (2 + i) (row_columns p i) (324 + length numbers) (324 + length numbers + size rs) (row_laid i h) end-room);
      };
      is = matrix_is;
    }

    -- what is put is that list
    pub list_holds : (cover m out : List ℕ) → cover ≡ all_marked 0 (bodies lengths numbers) (replicate 16384 0) → m ≡ a →
        out ≡ put m 2 (324 + length numbers) (all_marks cover (length lengths) rows) → Holds out p
    list_holds cover m out c em eo = rw (eo, rows_are cover c, em) laid_holds
