-- Each way out of the tests is one way out of the definition.
use mathlib.Core.Path.{◌∙◌}
use Rattle.refusals.specs.Refusals.{outcome}
use Rattle.refusals.proofs.Laws.{failed, passed, handed_on}
use Rattle.writer.proofs.Tested.{numbers_differ, bodies_fail, bodies-pass}
use Rattle.writer.proofs.check_numbers.Goals as goal

pub returns-then-numbers-total : goal.returns-then-numbers-total
unfolding outcome
returns-then-numbers-total c = numbers_differ _ _ _ _ _ c.requires.total_value c.if-numbers-total.true

pub returns-in_err-check_bodies : goal.returns-in_err-check_bodies
unfolding outcome
returns-in_err-check_bodies c =
    rw (handed_on _ _ c.from_residual.ensures.1)
    (bodies_fail _ _ _ _ (c.if-numbers-total.false ∙ c.requires.total_value) _ (failed c.check_bodies.ensures _ c.in_err-check_bodies.was))

pub returns : goal.returns
unfolding outcome
returns c = bodies-pass _ _ _ _ (c.if-numbers-total.false ∙ c.requires.total_value) (passed c.check_bodies.ensures c.in_ok-check_bodies.was)
