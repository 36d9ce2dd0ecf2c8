-- The row is a part of the list, and it agrees with the columns.
use mathlib.Core.Path.{◌∙◌}
use Rattle.node.proofs.row_part.Goals as goal

pub returns : goal.returns
returns c = let t = c.requires in c.part.ensures ∙ t.kept.agrees _ t.row
