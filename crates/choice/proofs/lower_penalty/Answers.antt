-- The lower of the two, and the cost where there was none.
use borrow.Author.Tests.{eq-eqb, ne_eqb}
use Rattle.choice.specs.Row.{lower_penalty}
use Rattle.choice.proofs.lower_penalty.Goals as goal

pub returns-then-penalty-eq0 : goal.returns-then-penalty-eq0
unfolding lower_penalty
returns-then-penalty-eq0 c = rw (eq-eqb _ _ c.if-penalty-eq0.true)

pub returns : goal.returns
unfolding lower_penalty
returns c = rw (ne_eqb _ _ c.if-penalty-eq0.false) c.min.ensures
