-- The second number is how many columns there are.
use mathlib.Core.Path.{sym, ◌∙◌}
use Rattle.node.proofs.Parts.{width_in}
use Rattle.node.proofs.column_count.Goals as goal

pub returns : goal.returns
returns c = c.from.ensures ∙ sym (width_in _)
