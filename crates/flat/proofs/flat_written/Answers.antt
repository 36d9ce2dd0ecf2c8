-- By the arms of the match: a refusal gives its number, and a file that is written its length, which fits.
use mathlib.Core.Path.{ap}
use native.Mathlib.Omega.{arith}
use Rattle.refusals.specs.Refusals.{outcome}
use Rattle.flat.specs.Flat.{written_of}
use Rattle.flat.proofs.flat_written.Goals as goal

pub overflow_cast-result : goal.overflow_cast-result
unfolding outcome
overflow_cast-result c = omega (arith, c.requires _ (ap outcome c.in-Ok.is))

pub returns-in-Err : goal.returns-in-Err
unfolding written_of outcome
returns-in-Err c = rw (c.in-Err.is, c.from.ensures)

pub returns-in-Ok : goal.returns-in-Ok
unfolding written_of outcome
returns-in-Ok c = rw c.in-Ok.is
