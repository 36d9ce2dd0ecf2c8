-- What the choice looks at in a column: the columns that share a row with it are those that cover one of the rows of its body, and its
-- body's length is how many rows it covers.
use mathlib.Core.Path.{◌≡◌, refl, ap, sym, ◌∙◌}
use mathlib.Core.Bool.{true}
use mathlib.Core.List.{List, [], ◌∷◌}
use Prim.Native.Nat.{ℕ, ◌*◌, ◌<◌}
use native.Mathlib.Nat.{mul-zero}
use native.Mathlib.Omega.{arith}
use Rattle.std.proofs.Common.{Some}
use lib.ListN.{length}
use lib.Dec.{eqb}
use borrow.Author.Tests.{lt-ltb}
use Rattle.node.specs.declared.Node.{Node}
use Rattle.node.specs.Lists.{keep, pick}
use Rattle.node.specs.Passes.{best_in}
use Rattle.node.specs.Matrix.{Matrix, width, columns, body, span, covers, meets}
use Rattle.node.specs.Node.{is_free, cost_at, free_columns}
use Rattle.rules.specs.Tree.{sum, zeros, sharing, column_before}
use Rattle.node.proofs.Members.{kept, upto_lt, keep-short, keep-upto}
use Rattle.rules.proofs.Sums.{total-one}
use Rattle.node.specs.Stored.{Small, InRows, row_columns}
use Rattle.node.specs.View.{view}
use Rattle.candidates.specs.Row.{zero_in}
use Rattle.node.proofs.Parts.{body_in_rows, free-row}
use Rattle.sharing.specs.Sharing.{sharing_in}
use Rattle.sharing.proofs.Sharing.{keep_both, sharing-is}
use Rattle.columns.specs.Column.{branch_column, column_precedes, no_column, column_from, column_of, best_column, only, InColumns, Few}

-- its body
module _ (p : Matrix) (q : Small p) (j : ℕ) (l : j < width p) (rs : List ℕ) (is : rs ≡ body p j) where
  pub column-rows : InRows p rs
  column-rows = rw is (body_in_rows p q j l)

  pub column-size : length rs < 4294967296
  column-size = rw is (omega (arith, q.full, total-one (width p) j (span p) l))

  pub column-is : (cost column : List ℕ) (share : ℕ) → share ≡ sharing_in p (zero_in cost column) rs →
      record { share = share; size = length rs; column = j } ≡ branch_column p (view cost column []) j
  unfolding branch_column
  column-is cost column share told =
      let e : share ≡ sharing (sum p) p (view cost column []) j =
      told ∙ ap (sharing_in p (zero_in cost column)) is ∙ sharing-is p q cost column j l in
      rw (e, is)

module _ (p : Matrix) (q : Small p) (j : ℕ) (l : j < width p) where
  pub column-few : (s : Node) → Few (branch_column p s j)
  unfolding branch_column sharing free_columns
  column-few s =
      let fs : List ℕ = keep (is_free s) (columns p) in
      record {
        share_few = omega (
          arith,
          keep-short (meets p j) (keep (λ k. eqb (cost_at s k) 0) fs),
          keep-short (λ k. eqb (cost_at s k) 0) fs,
          keep-upto (is_free s) (width p),
          q.fits.wide,
        );
        size_few = omega (arith, q.full, total-one (width p) j (span p) l);
      }

  pub column-before-none : (s : Node) → column_precedes (branch_column p s j) no_column ≡ true
  unfolding column_precedes branch_column
  column-before-none s =
      lt-ltb (sharing (sum p) p s j * 0) (1 * span p j) (rw (mul-zero (sharing (sum p) p s j)) (omega (arith, q.covering j l)))

pub same_column : (p : Matrix) (s : Node) (j k : ℕ) → column_precedes (branch_column p s j) (branch_column p s k) ≡ column_before (sum p) p s j k
unfolding column_precedes branch_column column_before
same_column p s j k = refl

-- the column of what is told of the best
pub column_from_lem : (p : Matrix) (s : Node) (js : List ℕ) →
    (best_in (branch_column p s) (column_before (sum p) p s) no_column js).column ≡ column_from p s js
unfolding best_in branch_column
column_from_lem p s [] = refl
column_from_lem p s (j ∷ js) = refl

-- the one column at cost 0
pub only-is : (p : Matrix) (s : Node) (js : List ℕ) (single : ℕ) → Some single ≡ only js → single ≡ column_from p s js
unfolding only best_in pick
only-is p s [] single e = cc
only-is p s (j ∷ []) single e = cc
only-is p s (j ∷ (k ∷ ks)) single e = cc

module _ (p : Matrix) (i : ℕ) (row : List ℕ) (is : row ≡ row_columns p i) where
  pub row_inside : InColumns p row
  row_inside = rw is (λ j m. upto_lt (width p) j (kept (covers p i) j (columns p) m).1)

  pub row-column-is : (cost column : List ℕ) → column_of p cost column row ≡ best_column p (view cost column []) i
  unfolding zeros
  row-column-is cost column =
      let s : Node = view cost column [] in
      ap (column_of p cost column) is
      ∙ ap (column_from p s) (sym (ap (keep (λ j. eqb (cost_at s j) 0)) (free-row p s i) ∙ keep_both (λ j. eqb (cost_at s j) 0) (is_free s) (row_columns p i)))
