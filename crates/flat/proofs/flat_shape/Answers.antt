-- By the arms of the match: a refusal gives its number, and what is accepted gives its values, which fit.
use mathlib.Core.Path.{ap}
use native.Mathlib.Omega.{arith}
use Rattle.refusals.specs.Refusals.{outcome}
use Rattle.flat.specs.Flat.{shape_of}
use Rattle.flat.proofs.flat_shape.Goals as goal

pub overflow_cast-result : goal.overflow_cast-result
unfolding outcome
overflow_cast-result c = omega (arith, c.requires _ (ap outcome c.in-Ok.is))

pub overflow_cast-result-in-Ok : goal.overflow_cast-result-in-Ok
unfolding outcome
overflow_cast-result-in-Ok c = omega (arith, c.requires _ (ap outcome c.in-Ok.is))

pub overflow_cast-result-in-Ok-2 : goal.overflow_cast-result-in-Ok-2
unfolding outcome
overflow_cast-result-in-Ok-2 c = omega (arith, c.requires _ (ap outcome c.in-Ok.is))

pub returns-in-Err : goal.returns-in-Err
unfolding shape_of outcome
returns-in-Err c = let d = c.default.ensures in rw (c.in-Err.is, c.from.ensures, d.1.0, d.1.1.0, d.1.1.1.0, d.1.1.1.1)

pub returns-in-Ok : goal.returns-in-Ok
unfolding shape_of outcome
returns-in-Ok c = rw (c.in-Ok.is, c.edition_number.ensures)
