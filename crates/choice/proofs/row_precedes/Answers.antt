-- The first criterion in which the rows differ decides.
use mathlib.Core.Path.{◌∙◌}
use Rattle.choice.proofs.Criteria.{by-zeros, by-penalty, by-free, by_row}
use Rattle.choice.proofs.row_precedes.Goals as goal

pub returns-then-a-b : goal.returns-then-a-b
returns-then-a-b c = by-zeros _ _ c.if-a-b.true

pub returns-then-a-b-2 : goal.returns-then-a-b-2
returns-then-a-b-2 c = c.is_above.ensures ∙ by-penalty _ _ c.if-a-b.false c.if-a-b-2.true

pub returns-then-a-b-3 : goal.returns-then-a-b-3
returns-then-a-b-3 c = by-free _ _ c.if-a-b.false c.if-a-b-2.false c.if-a-b-3.true

pub returns : goal.returns
returns c = by_row _ _ c.if-a-b.false c.if-a-b-2.false c.if-a-b-3.false
