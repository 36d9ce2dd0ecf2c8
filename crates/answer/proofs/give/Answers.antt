-- Each way out is one of the answers, and the plan is written where one is kept.
use mathlib.Core.Path.{refl, ◌∙◌}
use Rattle.refusals.specs.Refusals.{front}
use Rattle.rules.specs.Search.{shown_by}
use Rattle.answer.specs.Answer.{told, shown_of, values_of, plan_numbers}
use Rattle.answer.proofs.Order.{given}
use Rattle.answer.proofs.Given.{answer-stopped, answer-none, answer-stopped-with, answer-best}
use Rattle.answer.proofs.give.Goals as goal

pub returns-then-tally : goal.returns-then-tally
unfolding told values_of shown_of shown_by plan_numbers front
returns-then-tally c =
    let a = c.args in
    let e = answer-stopped a.columns a.done c.if-not-tally.true c.if-tally.true in
    let bound = c.lowered-bound in
    record { result_value = rw e (rw (given _ bound.type_inv ∙ bound.ensures)); plan_after = rw e refl }

pub returns-then-not-tally : goal.returns-then-not-tally
unfolding told values_of shown_by plan_numbers front
returns-then-not-tally c =
    let a = c.args in
    let e = answer-none a.columns a.done c.if-not-tally.true c.if-tally.false in
    record { result_value = rw e refl; plan_after = rw e refl }

pub put_plan-count-requires : goal.put_plan-count-requires
put_plan-count-requires c =
    let h = c.requires in
    record { wide = h.wide; room = h.room c.if-not-tally.false }

pub returns-then-tally-2 : goal.returns-then-tally-2
unfolding told values_of shown_of shown_by plan_numbers
returns-then-tally-2 c =
    let a = c.args in
    let e = answer-stopped-with a.columns a.done c.if-not-tally.false c.if-tally-2.true in
    let bound = c.lowered-bound in
    let cost = c.lowered in
    record { result_value = rw e (rw (given _ bound.type_inv ∙ bound.ensures, given _ cost.type_inv ∙ cost.ensures, ← c.put_plan-count.ensures.value)); plan_after = rw e c.put_plan-count.ensures.plan_after }

pub returns : goal.returns
unfolding told values_of shown_of shown_by plan_numbers
returns c =
    let a = c.args in
    let e = answer-best a.columns a.done c.if-not-tally.false c.if-tally-2.false in
    let bound = c.lowered-bound in
    let cost = c.lowered in
    record { result_value = rw e (rw (given _ bound.type_inv ∙ bound.ensures, given _ cost.type_inv ∙ cost.ensures, ← c.put_plan-count.ensures.value)); plan_after = rw e c.put_plan-count.ensures.plan_after }
