-- By the arms of the match: a refusal gives its number, and an assignment its total.
use mathlib.Core.Path.{◌≡◌}
use Rattle.std.specs.Prelude.{Some, None}
use Rattle.assign.specs.Answer.{assign_outcome}
use Rattle.flat_assign.specs.Struct.{assigned_of}
use Rattle.flat_assign.proofs.flat_assigned.Goals as goal

pub returns-in-Err : goal.returns-in-Err
unfolding assigned_of assign_outcome
returns-in-Err c = rw (c.assigned.ensures, c.from.ensures, c.in-Err.is)

pub returns-in-Ok-None : goal.returns-in-Ok-None
unfolding assigned_of assign_outcome
returns-in-Ok-None c =
    let e : c.in-Ok-None.field-0 ≡ None = rw c.in-Ok-None.is at c.in-Ok-None.field-0-is in
    rw (c.in-Ok-None.is, e) c.assigned-in-Ok-None.ensures

pub returns-in-Ok-Some : goal.returns-in-Ok-Some
unfolding assigned_of assign_outcome
returns-in-Ok-Some c =
    let e : c.in-Ok-Some.field-0 ≡ Some c.in-Ok-Some.total = rw c.in-Ok-Some.is at c.in-Ok-Some.field-0-is in
    rw (c.in-Ok-Some.is, e, ← c.from-in-Ok-Some.ensures) c.assigned-in-Ok-Some.ensures
