-- By the arms of the match: a refusal gives its number.
use mathlib.Core.Path.{◌≡◌}
use Rattle.refusals.specs.Refusals.{outcome}
use Rattle.desk.specs.declared.Said.TheVariants.{Changed, Unchanged}
use Rattle.flat_desk.specs.Struct.{step_of}
use Rattle.flat_desk.proofs.flat_step.Goals as goal

pub returns-in-Err : goal.returns-in-Err
unfolding step_of outcome
returns-in-Err c = rw (c.from.ensures, c.in-Err.is)

pub returns-in-Ok-Unchanged : goal.returns-in-Ok-Unchanged
unfolding step_of outcome
returns-in-Ok-Unchanged c =
    let e : c.in-Ok-Unchanged.field-0 ≡ Unchanged = rw c.in-Ok-Unchanged.is at c.in-Ok-Unchanged.field-0-is in
    rw (c.in-Ok-Unchanged.is, e)

pub returns-in-Ok-Changed : goal.returns-in-Ok-Changed
unfolding step_of outcome
returns-in-Ok-Changed c =
    let e : c.in-Ok-Changed.field-0 ≡ Changed = rw c.in-Ok-Changed.is at c.in-Ok-Changed.field-0-is in
    rw (c.in-Ok-Changed.is, e)
