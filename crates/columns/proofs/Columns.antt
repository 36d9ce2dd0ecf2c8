-- The choice of the column: the columns that are left, looked at one by one, give the column that is picked from all that are free and at
-- cost 0.
use mathlib.Core.Path.{◌≡◌, ap, sym, ◌∙◌}
use mathlib.Core.Bool.{Bool, true, false, cond}
use mathlib.Core.List.{List, []}
use Prim.Native.Nat.{ℕ, ◌+◌, ◌≤◌, ◌<◌}
use native.Mathlib.Omega.{arith}
use lib.ListN.{length, get_or, drop}
use Rattle.node.proofs.Loops.{drop_in, drop_out, drop-end}
use Rattle.node.proofs.Passes.{follow_all}
use Rattle.node.specs.declared.Node.{Node}
use Rattle.node.specs.Lists.{keep}
use Rattle.node.specs.Passes.{carry, better, follow}
use Rattle.node.specs.Matrix.{Matrix}
use Rattle.rules.specs.Tree.{sum, column_before}
use Rattle.node.specs.Stored.{matrix_in, Kept, HasColumn}
use Rattle.node.proofs.Members.{kept as member_of, member-at}
use Rattle.node.specs.View.{view}
use Rattle.candidates.specs.Row.{zero_in}
use Rattle.columns.specs.declared.BranchColumn.{BranchColumn}
use Rattle.columns.specs.Column.{branch_column, column_precedes, no_column, column_of, InColumns, Few}
use Rattle.columns.proofs.Column.{column-few, column-before-none, same_column, column_from_lem}

-- at place k of some columns
pub record Picking (l cost column js : List ℕ) (best : BranchColumn) (k : ℕ) : Type 0 where
  pub kept : Kept l
  pub inside : InColumns (matrix_in l) js
  pub few : Few best
  pub left :
      (follow (branch_column (matrix_in l) (view cost column [])) column_precedes best (keep (zero_in cost column) (drop k js))).column
      ≡ column_of (matrix_in l) cost column js

pub picking_start : (l cost column js : List ℕ) → Kept l → InColumns (matrix_in l) js → Picking l cost column js no_column 0
picking_start l cost column js h n =
    let p : Matrix = matrix_in l in
    let s : Node = view cost column [] in
    let z : ℕ → Bool = zero_in cost column in
    record {
      kept = h;
      inside = n;
      few = record { share_few = omega arith; size_few = omega arith };
      left =
          ap (λ (a : BranchColumn). a.column)
          (follow_all (branch_column p s) column_precedes (column_before (sum p) p s) (same_column p s) no_column (keep z js)
          (λ j m. column-before-none p h.small j (n j (member_of z j js m).1) s))
          ∙ column_from_lem p s (keep z js);
    }

few-better : (b a : BranchColumn) → Few b → Few a → Few (better column_precedes b a)
few-better b a f g = go (column_precedes a b)
  where
    go : (t : Bool) → Few (cond t a b)
    go true = g
    go false = f

module _ (l cost column js : List ℕ) (best : BranchColumn) (k : ℕ) (w : Picking l cost column js best k) where
  -- the column that is picked from some that are left
  abbrev follows : BranchColumn → List ℕ → ℕ
  follows b ks = (follow (branch_column (matrix_in l) (view cost column [])) column_precedes b ks).column

  module _ (inside : k < length js) where
    -- the column is one of the matrix
    pub picking_column : HasColumn l (get_or js k 0)
    picking_column = record { kept = w.kept; column = w.inside (get_or js k 0) (member-at js k inside) }

    module _ (found : BranchColumn) (told : found ≡ branch_column (matrix_in l) (view cost column []) (get_or js k 0)) where
      pub picking_few : Few found
      picking_few = rw told (column-few (matrix_in l) w.kept.small (get_or js k 0) picking_column.column (view cost column []))

      pub picking_zero : zero_in cost column (get_or js k 0) ≡ true → (next : BranchColumn) → next ≡ better column_precedes best found →
          Picking l cost column js next (k + 1)
      unfolding carry
      picking_zero h next is = record {
        kept = w.kept;
        inside = w.inside;
        few = rw is (few-better best found w.few picking_few);
        left = rw (is, told) (sym (ap (follows best) (drop_in (zero_in cost column) js k inside h)) ∙ w.left);
      }

    pub picking_other : zero_in cost column (get_or js k 0) ≡ false → Picking l cost column js best (k + 1)
    picking_other h = record {
      kept = w.kept;
      inside = w.inside;
      few = w.few;
      left = sym (ap (follows best) (drop_out (zero_in cost column) js k inside h)) ∙ w.left;
    }

  pub picking_end : length js ≤ k → best.column ≡ column_of (matrix_in l) cost column js
  unfolding carry
  picking_end h = sym (ap (follows best) (drop-end (zero_in cost column) js k h)) ∙ w.left
