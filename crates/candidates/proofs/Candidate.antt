-- A row's candidate is the statistics of its own columns: its free columns are the free ones among them.
use mathlib.Core.Path.{◌≡◌, ap, sym, ◌∙◌}
use mathlib.Core.List.{List, []}
use Prim.Native.Nat.{ℕ}
use native.Mathlib.Omega.{arith}
use Rattle.node.specs.declared.Node.{Node}
use Rattle.node.specs.Matrix.{Matrix, span}
use Rattle.node.specs.Node.{cost_at}
use Rattle.rules.specs.Reduce.{least_of, candidate}
use Rattle.node.specs.Stored.{matrix_in, Kept, row_columns}
use Rattle.node.proofs.Parts.{row-column, row-short, free-row}
use Rattle.node.specs.View.{view}
use Rattle.candidates.specs.Row.{tally_at, tally, tally_in, Listed}

pub row_listed : (l : List ℕ) → Kept l → (i : ℕ) (row : List ℕ) → row ≡ row_columns (matrix_in l) i → Listed l row
row_listed l k i row e = rw e (record {
  has = record { kept = k; inside = λ n m. (row-column (matrix_in l) i n m).0 };
  few = omega (arith, row-short (matrix_in l) k.small i);
})

pub candidate-is : (p : Matrix) (cost column row : List ℕ) (i : ℕ) → row ≡ row_columns p i →
    tally_in p cost column row i ≡ candidate p (view cost column []) i
unfolding tally_at candidate least_of
candidate-is p cost column row i e =
    let s : Node = view cost column [] in
    ap (λ (r : List ℕ). tally_in p cost column r i) e ∙ ap (λ (r : List ℕ). tally (cost_at s) (span p) r i) (sym (free-row p s i))
