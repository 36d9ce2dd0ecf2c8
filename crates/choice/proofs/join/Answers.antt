-- A column at cost 0 is one more of these, and any other may lower the penalty.
use borrow.Author.Tests.{eq-eqb, ne_eqb}
use Rattle.choice.specs.Row.{joined}
use Rattle.choice.proofs.join.Goals as goal

pub returns-then-cost-eq0 : goal.returns-then-cost-eq0
unfolding joined
returns-then-cost-eq0 c = rw (eq-eqb _ _ c.if-cost-eq0.true)

pub returns-else-cost-eq0 : goal.returns-else-cost-eq0
unfolding joined
returns-else-cost-eq0 c = rw (ne_eqb _ _ c.if-cost-eq0.false, c.lower_penalty.ensures)
