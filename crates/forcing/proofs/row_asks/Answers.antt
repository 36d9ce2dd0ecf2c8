-- What the columns ask that are the row's.
use mathlib.Core.Path.{ap, ◌∙◌}
use mathlib.Core.List.{List}
use Prim.Native.Nat.{ℕ}
use Rattle.node.specs.Stored.{matrix_in}
use Rattle.node.proofs.Parts.{row_columns_lem}
use Rattle.forcing.specs.Rows.{free_in, asks_by}
use Rattle.forcing.proofs.row_asks.Goals as goal

pub columns_ask-requires : goal.columns_ask-requires
columns_ask-requires c = row_columns_lem (matrix_in _) c.requires.kept.small _ _ c.row_part-row.ensures

pub returns : goal.returns
returns c =
    c.columns_ask.ensures
    ∙ ap (λ (row : List ℕ). asks_by (free_in c.args.column.now row)) c.row_part-row.ensures
