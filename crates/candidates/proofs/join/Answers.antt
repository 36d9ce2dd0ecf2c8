-- Each way out of the tests is one case of the definition.
use borrow.Author.Tests.{eq-eqb, ne_eqb, lt-ltb, le-ltb}
use Rattle.candidates.specs.Row.{joined}
use Rattle.candidates.proofs.join.Goals as goal

pub returns-then-a-eq0 : goal.returns-then-a-eq0
unfolding joined
returns-then-a-eq0 c = rw (eq-eqb _ _ c.if-a-eq0.true)

pub returns-then-cost-a : goal.returns-then-cost-a
unfolding joined
returns-then-cost-a c = rw (ne_eqb _ _ c.if-a-eq0.false, lt-ltb _ _ c.if-cost-a.true)

pub returns-then-cost-a-2 : goal.returns-then-cost-a-2
unfolding joined
returns-then-cost-a-2 c = rw (ne_eqb _ _ c.if-a-eq0.false, le-ltb _ _ c.if-cost-a.false, ne_eqb _ _ c.if-cost-a-2.true)

pub returns : goal.returns
unfolding joined
returns c = rw (ne_eqb _ _ c.if-a-eq0.false, le-ltb _ _ c.if-cost-a.false, eq-eqb _ _ c.if-cost-a-2.false) cc
