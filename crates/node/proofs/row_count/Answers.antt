-- The first number is how many rows there are.
use mathlib.Core.Path.{◌∙◌}
use Rattle.node.proofs.Parts.{rows_in_lem}
use Rattle.node.proofs.row_count.Goals as goal

pub returns : goal.returns
returns c = c.from.ensures ∙ rows_in_lem _
