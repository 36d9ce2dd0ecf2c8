-- The penalty counts where just one column is at cost 0.
use borrow.Author.Tests.{eq-eqb, ne_eqb}
use Rattle.choice.specs.Row.{bound_without}
use Rattle.choice.proofs.without_bound.Goals as goal

pub returns-then-a-eq1 : goal.returns-then-a-eq1
unfolding bound_without
returns-then-a-eq1 c = rw (eq-eqb _ _ c.if-a-eq1.true)

pub returns : goal.returns
unfolding bound_without
returns c = rw (ne_eqb _ _ c.if-a-eq1.false)
