-- The body is a part of the list.
use mathlib.Core.Path.{◌∙◌}
use Rattle.node.proofs.Parts.{body_in_lem}
use Rattle.node.proofs.column_part.Goals as goal

pub returns : goal.returns
returns c = let t = c.requires in c.part.ensures ∙ body_in_lem _ _ t.column
