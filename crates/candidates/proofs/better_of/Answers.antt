-- A row with cost 0 gives way, and otherwise the comparison decides.
use borrow.Author.Tests.{eq-eqb, ne_eqb}
use Rattle.candidates.specs.Best.{ahead}
use Rattle.candidates.proofs.better_of.Goals as goal

pub returns-then-b-eq0 : goal.returns-then-b-eq0
unfolding ahead
returns-then-b-eq0 c = rw (eq-eqb _ _ c.if-b-eq0.true)

pub returns-then-a-eq0 : goal.returns-then-a-eq0
unfolding ahead
returns-then-a-eq0 c = rw (ne_eqb _ _ c.if-b-eq0.false, eq-eqb _ _ c.if-a-eq0.true)

pub returns-then-comes_before : goal.returns-then-comes_before
unfolding ahead
returns-then-comes_before c = rw (ne_eqb _ _ c.if-b-eq0.false, ne_eqb _ _ c.if-a-eq0.false, ← c.comes_before.ensures, c.if-comes_before.true)

pub returns : goal.returns
unfolding ahead
returns c = rw (ne_eqb _ _ c.if-b-eq0.false, ne_eqb _ _ c.if-a-eq0.false, ← c.comes_before.ensures, c.if-comes_before.false)
