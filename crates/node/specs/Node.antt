-- The node (01, Forcing): what its marks say, the root, and the steps that decide a column. The node is the declared struct: a table of
-- 256 present costs, a mark for each of 256 columns (0 out, 1 free, 2 taken) and of 64 rows (0 closed, 1 open), and the lower bound
-- (01: floor). Columns from the matrix's width on are out, at cost 0, and rows from its height on are closed.
use Rattle.std.specs.Prelude.{Bool, cond, ◌&&◌, List, ℕ, get_or, eqb, ltb}
use Rattle.node.specs.declared.Node.{Node}
use Rattle.node.specs.Lists.{keep, upto, table, on}
use Rattle.node.specs.Matrix.{Matrix, width, columns, covers, meets}

abbrev pub mark : Node → ℕ → ℕ
mark s j = get_or s.column j 0

abbrev pub is_free : Node → ℕ → Bool
is_free s j = eqb (mark s j) 1

abbrev pub is_taken : Node → ℕ → Bool
is_taken s j = eqb (mark s j) 2

abbrev pub is_open : Node → ℕ → Bool
is_open s i = eqb (get_or s.row i 0) 1

-- the present cost of a column (01: present price)
abbrev pub cost_at : Node → ℕ → ℕ
cost_at s j = get_or s.cost j 0

-- the free columns, rising
unfoldable pub free_columns : Matrix → Node → List ℕ
free_columns p s = keep (is_free s) (columns p)

-- the free columns of a row, rising
unfoldable pub free_of : Matrix → Node → ℕ → List ℕ
free_of p s i = keep (covers p i) (free_columns p s)

-- the open rows, rising
unfoldable pub open_rows : Matrix → Node → List ℕ
open_rows p s = keep (is_open s) (upto p.rows)

-- the taken columns, rising
unfoldable pub taken : Matrix → Node → List ℕ
taken p s = keep (is_taken s) (columns p)

-- all rows open, all columns free at their costs in the file, and bound 0
unfoldable pub root : Matrix → List ℕ → Node
root p costs = record {
  cost = table 256 (λ j. get_or costs j 0);
  column = table 256 (λ j. on (ltb j (width p)) 1);
  row = table 64 (λ i. on (ltb i p.rows) 1);
  bound = 0;
}

-- column j taken, with b the bound from there on: its rows close, and every column that covers one of them is no longer free
unfoldable pub take : Matrix → Node → ℕ → ℕ → Node
take p s j b = record {
  cost = s.cost;
  column = table 256 (λ k. cond (eqb k j) 2 (cond (is_free s k && meets p j k) 0 (mark s k)));
  row = table 64 (λ i. cond (covers p i j) 0 (get_or s.row i 0));
  bound = b;
}

-- column j no longer free
unfoldable pub leave : Node → ℕ → Node
leave s j = record { cost = s.cost; column = table 256 (λ k. cond (eqb k j) 0 (mark s k)); row = s.row; bound = s.bound }
