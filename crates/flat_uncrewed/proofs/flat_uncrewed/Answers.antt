-- By the arms of the match: a refusal gives its number, and a row its own and how many columns are shown.
use mathlib.Core.Path.{◌∙◌}
use Rattle.uncrewed.specs.Answer.{told, uncrewed_outcome}
use Rattle.flat_uncrewed.specs.Struct.{uncrewed_of}
use Rattle.flat_uncrewed.proofs.flat_uncrewed.Goals as goal

pub returns-in-Err : goal.returns-in-Err
unfolding uncrewed_of uncrewed_outcome
returns-in-Err c = rw (c.numbers.ensures, c.from.ensures, c.in-Err.is)

pub returns-in-Ok-PlanExists : goal.returns-in-Ok-PlanExists
unfolding uncrewed_of told uncrewed_outcome
returns-in-Ok-PlanExists c =
    let a = c.in-Ok-PlanExists in
    c.numbers-in-Ok-PlanExists.ensures ∙ rw (a.is, rw a.is at a.field-0-is)

pub returns-in-Ok-Stopped : goal.returns-in-Ok-Stopped
unfolding uncrewed_of told uncrewed_outcome
returns-in-Ok-Stopped c =
    let a = c.in-Ok-Stopped in
    c.numbers-in-Ok-Stopped.ensures ∙ rw (a.is, rw a.is at a.field-0-is)

pub returns-in-Ok-NoCrew : goal.returns-in-Ok-NoCrew
unfolding uncrewed_of told uncrewed_outcome
returns-in-Ok-NoCrew c =
    let a = c.in-Ok-NoCrew in
    c.numbers-in-Ok-NoCrew.ensures ∙ rw (a.is, rw a.is at a.field-0-is)
