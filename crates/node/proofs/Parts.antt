-- What a matrix that is kept says of its parts: a body has row numbers of the matrix, a row has columns of it,
-- and its free columns are the free ones of these.
use mathlib.Core.Path.{◌≡◌, refl, ap, sym, ◌∙◌}
use mathlib.Core.Bool.{Bool, true, false, ◌&&◌, false≢true}
use mathlib.Core.List.{List, [], map}
use Prim.Native.Nat.{ℕ, zero, suc, ◌+◌, ◌≤◌, ◌<◌}
use native.Mathlib.Nat.{add-zero, zero-add}
use native.Mathlib.Omega.{arith}
use lib.ListN.{length, get_or, length-map, length-take, get_or-eq_default}
use lib.Dec.{ltb}
use borrow.Author.Tests.{ltb-true, ltb-false}
use Rattle.node.specs.declared.Node.{Node}
use Rattle.node.specs.Lists.{keep, from, upto, member}
use Rattle.node.specs.Node.{is_free, free_columns, free_of}
use Rattle.node.specs.Matrix.{Matrix, width, columns, body, span, covers}
use Rattle.node.specs.Stored.{Small, body_in, matrix_in, HasRow, HasColumn, Columns, Body, InRows, row_columns}
use Rattle.node.proofs.Members.{and_both, same_bool, kept, upto_lt, member-at, member-keep, member-upto, keep-upto, keep_swap, length_from}

-- the matrix that a list holds, by its parts
pub map_at : (f : ℕ → List ℕ) (n k i : ℕ) → i < n → get_or (map f (from n k)) i [] ≡ f (k + i)
unfolding from
map_at f zero k i h = absurd (omega arith)
map_at f (suc n) k zero h = rw add-zero
map_at f (suc n) k (suc i) h = map_at f n (suc k) i (omega arith) ∙ ap f (omega arith)

module _ (l : List ℕ) where
  pub rows_in_lem : get_or l 0 0 ≡ (matrix_in l).rows
  unfolding matrix_in
  rows_in_lem = refl

  pub width_in : width (matrix_in l) ≡ get_or l 1 0
  unfolding matrix_in
  width_in = length-map (upto (get_or l 1 0)) (body_in l) ∙ length_from (get_or l 1 0) 0

  pub body_in_lem : (j : ℕ) → j < width (matrix_in l) → body_in l j ≡ body (matrix_in l) j
  unfolding matrix_in
  body_in_lem j h = sym (map_at (body_in l) (get_or l 1 0) 0 j (omega (arith, width_in)) ∙ ap (body_in l) (zero-add j))

-- where a row and a column of it stand
module _ (l : List ℕ) (i : ℕ) (t : HasRow l i) where
  pub row_low : i < 64
  row_low = omega (arith, t.row, t.kept.small.fits.tall)

module _ (l : List ℕ) (j : ℕ) (t : HasColumn l j) where
  pub column-low : j < 256
  column-low = omega (arith, t.column, t.kept.small.fits.wide)

  pub span-low : span (matrix_in l) j ≤ get_or l (67 + j + 1) 0
  span-low = rw (← body_in_lem l j t.column) (simp length-take (omega arith))

module _ (p : Matrix) where
  pub body_in_rows : Small p → (j : ℕ) → j < width p → InRows p (body p j)
  body_in_rows s j h k l = s.numbered j (get_or (body p j) k 0) h (member-at (body p j) k l)

  pub body-rows : Small p → (j : ℕ) → j < width p → Body (body p j)
  body-rows s j h k l =
      let r = body_in_rows s j h k l in
      (r.0, omega (arith, r.1, s.fits.tall))

  -- an element of a row
  pub row-column : (i k : ℕ) → k < length (row_columns p i) →
      let j : ℕ = get_or (row_columns p i) k 0 in (j < width p) × (covers p i j ≡ true)
  row-column i k l =
      let m = kept (covers p i) (get_or (row_columns p i) k 0) (columns p) (member-at (row_columns p i) k l) in
      (upto_lt (width p) (get_or (row_columns p i) k 0) m.1, m.0)

  pub row_columns_lem : Small p → (i : ℕ) (row : List ℕ) → row ≡ row_columns p i → Columns row
  row_columns_lem s i row is = rw is (λ k l. omega (arith, (row-column i k l).0, s.fits.wide))

  -- the free columns of a row are the free ones of its columns
  pub free-row : (s : Node) (i : ℕ) → free_of p s i ≡ keep (is_free s) (row_columns p i)
  unfolding free_of free_columns
  free-row s i = keep_swap (covers p i) (is_free s) (columns p)

  -- a row's columns are those that cover it, and few
  pub row-covers : (i k : ℕ) → member k (row_columns p i) ≡ covers p i k
  unfolding covers member
  row-covers i k =
      member-keep (covers p i) k (columns p)
      ∙ same_bool (covers p i k && member k (columns p)) (covers p i k) (λ h. (and_both h).0)
      (λ h. rw (h, member-upto (width p) k (covering h)))
    where
      covering : covers p i k ≡ true → k < width p
      covering h = go (ltb k (width p)) refl
        where
          go : (b : Bool) → ltb k (width p) ≡ b → k < width p
          go true e = ltb-true k (width p) e
          go false e =
              let n : body p k ≡ [] = get_or-eq_default p.bodies [] (omega (arith, ltb-false k (width p) e)) in
              absurd (false≢true (rw n at h))

  pub row-short : Small p → (i : ℕ) → length (row_columns p i) ≤ 256
  row-short s i = omega (arith, keep-upto (covers p i) (width p), s.fits.wide)

  pub row-few : Small p → (i : ℕ) (row : List ℕ) → row ≡ row_columns p i → Columns row × (length row ≤ 4096)
  row-few s i row is = (row_columns_lem s i row is, rw is (omega (arith, row-short s i)))
