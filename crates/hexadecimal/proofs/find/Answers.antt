use mathlib.Core.Path.{◌∙◌}
use Rattle.hexadecimal.proofs.Laws.{found, not_here, at-end}
use Rattle.hexadecimal.proofs.find.Goals as goal

pub returns-then-s-i-clause-value : goal.returns-then-s-i-clause-value
returns-then-s-i-clause-value c = let l = c.loop-i in found _ l.i _ c.loop-i-test.true c.if-s-i.true ∙ l.invariant

pub loop-i-preserved : goal.loop-i-preserved
loop-i-preserved c = let l = c.loop-i in not_here _ l.i _ c.loop-i-test.true c.if-s-i.false ∙ l.invariant

pub returns-clause-value : goal.returns-clause-value
returns-clause-value c = let l = c.loop-i in at-end _ l.i _ c.loop-i-test.false ∙ l.invariant
