-- What the steps of taking a column come to, on the tables that they change.
use Rattle.std.specs.Prelude.{cond, List, ℕ, ◌-◌, get_or, set, eqb}
use Rattle.node.specs.Passes.{carry}
use Rattle.node.specs.Matrix.{Matrix}
use Rattle.node.specs.Stored.{row_columns}

-- the rows of a body closed
abbrev pub closed : List ℕ → List ℕ → List ℕ
closed rs row = carry (λ marks r. set marks (r - 1) 0) row rs

-- column j out, if it is free
unfoldable pub dropped : List ℕ → ℕ → List ℕ
dropped column j = cond (eqb (get_or column j 0) 1) (set column j 0) column

-- the free ones of some columns out
abbrev pub all_dropped : List ℕ → List ℕ → List ℕ
all_dropped js column = carry dropped column js

-- the free columns of the rows of a body out
abbrev pub rows_dropped : Matrix → List ℕ → List ℕ → List ℕ
rows_dropped p rs column = carry (λ marks r. all_dropped (row_columns p (r - 1)) marks) column rs
