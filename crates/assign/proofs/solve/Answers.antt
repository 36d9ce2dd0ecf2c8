-- The table's place for the empty set is the least total, and the walk writes the vessels.
use native.Mathlib.Omega.{arith}
use Rattle.assign.specs.Answer.{assign_outcome}
use Rattle.assign.proofs.Answers.{total-at, given-none, none-listed, given-total, total-listed}
use Rattle.assign.proofs.solve.Goals as goal

pub fill-requires : goal.fill-requires
fill-requires c = (c.requires.0, c.blank-least.ensures.0, c.blank-least.ensures.1)

pub returns-then-total-ge1000000000 : goal.returns-then-total-ge1000000000
unfolding assign_outcome
returns-then-total-ge1000000000 c =
    let z = c.requires.0 in
    let e = total-at _ _ _ _ c.fill.ensures in record { result_value = given-none _ _ _ z _ e c.if-total-ge1000000000.true; answer_after = none-listed _ _ _ z _ e c.if-total-ge1000000000.true _ }

pub walk-requires : goal.walk-requires
walk-requires c =
    let p = c.requires in
    (p.0, c.fill.ensures, p.1, omega (arith, total-at _ _ _ _ c.fill.ensures, c.if-total-ge1000000000.false))

pub returns : goal.returns
unfolding assign_outcome
returns c =
    let z = c.requires.0 in
    let e = total-at _ _ _ _ c.fill.ensures in record { result_value = given-total _ _ _ z _ e c.if-total-ge1000000000.false; answer_after = total-listed _ _ _ z _ e c.if-total-ge1000000000.false _ _ c.walk.ensures }
