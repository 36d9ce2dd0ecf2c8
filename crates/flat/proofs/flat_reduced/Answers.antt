-- By the arms of the match: a refusal gives its number, and a file reduced its bound and the number of rows used, which fits.
use mathlib.Core.Path.{ap}
use native.Mathlib.Omega.{arith}
use borrow.Author.Rules.{rules}
use mir.Syntax.{w64}
use mir.Val.{SFits}
use mir.Facts.{to_z-of_z}
use Rattle.refusals.specs.Refusals.{outcome}
use Rattle.flat.specs.Flat.{reduced_of}
use Rattle.flat.proofs.flat_reduced.Goals as goal

pub overflow_cast-result : goal.overflow_cast-result
unfolding outcome
overflow_cast-result c = omega (arith, c.requires _ (ap outcome c.in-Ok.is))

pub returns-in-Err : goal.returns-in-Err
unfolding reduced_of outcome
returns-in-Err c = let d = c.default.ensures in rw (c.in-Err.is, c.from.ensures, d.1.0, d.1.1)

pub returns-in-Ok : goal.returns-in-Ok
unfolding reduced_of outcome
returns-in-Ok c =
    let f : SFits w64 c.in-Ok.found.bound = search rules in
    rw (c.in-Ok.is, to_z-of_z f)
