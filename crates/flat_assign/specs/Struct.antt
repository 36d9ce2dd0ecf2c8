-- What the assigning call comes to, as a struct of numbers for C: a refusal has 02's number and 0 in every other field; otherwise the
-- refusal is 0, and the outcome is 1 for best and 2 for none.
use Rattle.std.specs.Prelude.{cond, eqb}
use Rattle.refusals.specs.Refusals.{Outcome, accepted, refused}
use Rattle.assign.specs.Answer.{Values, told_best, told_none}
use Rattle.flat_assign.specs.declared.SppAssigned.{SppAssigned}

unfoldable pub assigned_of : Outcome Values → SppAssigned
assigned_of (accepted (told_best x)) = record { refusal = 0; outcome = 1; total = x }
assigned_of (accepted told_none) = record { refusal = 0; outcome = 2; total = 0 }
assigned_of (refused k) = record { refusal = k; outcome = 0; total = 0 }

-- the answer as a reader of the struct sees it
unfoldable pub outcome_in : SppAssigned → Outcome Values
outcome_in r = cond (eqb r.refusal 0) (accepted (cond (eqb r.outcome 1) (told_best r.total) told_none)) (refused r.refusal)
