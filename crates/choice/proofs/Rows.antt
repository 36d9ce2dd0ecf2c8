-- The choice of the row: the open rows that are left, looked at one by one, give the row that is picked from all open rows.
use mathlib.Core.Path.{◌≡◌, refl, ap, ◌∙◌}
use mathlib.Core.List.{List, []}
use Prim.Native.Nat.{ℕ, ◌+◌, ◌<◌}
use lib.ListN.{get_or}
use Rattle.node.specs.declared.Node.{Node}
use Rattle.node.specs.Passes.{better}
use Rattle.node.specs.Matrix.{Matrix}
use Rattle.node.specs.Node.{free_columns, free_of, open_rows}
use Rattle.rules.specs.Tree.{sum, zeros, dearer, penalty, row_before}
use Rattle.node.proofs.Passes.{Passing, passing_start, passing_open, follow_all}
use Rattle.node.specs.Stored.{matrix_in, Kept}
use Rattle.node.specs.View.{view}
use Rattle.choice.specs.declared.BranchRow.{BranchRow}
use Rattle.choice.specs.Row.{branch_row, precedes, no_row, best_row}
use Rattle.choice.proofs.Row.{same-order, before-none}

-- at row i
abbrev pub Choosing : List ℕ → Node → ℕ → BranchRow → ℕ → Type 0
Choosing l s = Passing (λ b x. better precedes b (branch_row (matrix_in l) s x)) (best_row (matrix_in l) s) l s

pub choosing_start : (l : List ℕ) (s : Node) (rows : ℕ) → Kept l → rows ≡ (matrix_in l).rows → Choosing l s rows no_row 0
choosing_start l s rows k e =
    let p : Matrix = matrix_in l in
    passing_start _ _ l s rows no_row k e
    (follow_all (branch_row p s) precedes (row_before (sum p) p s) (same-order p s) no_row (open_rows p s)
    (λ i m. before-none p s k.small.fits.wide i))

-- the statistics look at costs and columns alone
same_row : (p : Matrix) (cost column row : List ℕ) (i : ℕ) → branch_row p (view cost column []) i ≡ branch_row p (view cost column row) i
unfolding branch_row zeros penalty dearer free_of free_columns
same_row p cost column row i = refl

pub choosing_open : (l cost column row : List ℕ) (rows : ℕ) (best : BranchRow) (i : ℕ) → Choosing l (view cost column row) rows best i → i < rows →
    get_or row i 0 ≡ 1 → (next : BranchRow) → next ≡ better precedes best (branch_row (matrix_in l) (view cost column []) i) →
    Choosing l (view cost column row) rows next (i + 1)
choosing_open l cost column row rows best i w inside h next is =
    passing_open w inside h next (is ∙ ap (better precedes best) (same_row (matrix_in l) cost column row i))
