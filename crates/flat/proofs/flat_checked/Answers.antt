-- By the arms of the match: a refusal gives its number, a plan its price, and else a row, which fits, and its count.
use mathlib.Core.Path.{ap}
use native.Mathlib.Omega.{arith}
use borrow.Author.Rules.{rules}
use mir.Syntax.{w32, w64}
use mir.Val.{SFits}
use mir.Facts.{to_z-of_z}
use Rattle.refusals.specs.Refusals.{outcome}
use Rattle.flat.specs.Flat.{checked_of}
use Rattle.flat.proofs.flat_checked.Goals as goal

pub overflow_cast-result : goal.overflow_cast-result
unfolding outcome
overflow_cast-result c = omega (arith, c.requires _ _ (rw c.in-NotOnce.is at (ap outcome c.in-Ok.is)))

pub returns-in-Err : goal.returns-in-Err
unfolding checked_of outcome
returns-in-Err c = let d = c.default.ensures in rw (c.in-Err.is, c.from.ensures, d.1.0, d.1.1.0, d.1.1.1.0, d.1.1.1.1)

pub returns-in-Plan : goal.returns-in-Plan
unfolding checked_of outcome
returns-in-Plan c =
    let d = c.default-in-Plan.ensures in
    let f : SFits w32 c.in-Plan.cost = search rules in
    let g : SFits w64 c.wide.result = search rules in
    rw (c.in-Ok.is, c.in-Plan.is, to_z-of_z g, c.wide.ensures, to_z-of_z f, d.0, d.1.1.0, d.1.1.1.0)

pub returns-in-NotOnce : goal.returns-in-NotOnce
unfolding checked_of outcome
returns-in-NotOnce c =
    let d = c.default-in-NotOnce.ensures in
    rw (c.in-Ok.is, c.in-NotOnce.is, d.0, d.1.0, d.1.1.1.1)
