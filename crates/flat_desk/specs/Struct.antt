-- What the desk's calls come to, as numbers for C: a refusal has its number and 0 in every other field; otherwise the refusal is 0.
use Rattle.std.specs.Prelude.{ℕ, ℤ, pos, Option, Some, None}
use Rattle.refusals.specs.Refusals.{Fault, fine, fault, Outcome, accepted, refused}
use Rattle.desk.specs.declared.Said.{Said}
use Rattle.desk.specs.declared.Said.TheVariants.{Changed, Unchanged}
use Rattle.flat_desk.specs.declared.SppStep.{SppStep}
use Rattle.flat_desk.specs.declared.SppReply.{SppReply}

unfoldable pub fault_number : Fault → ℕ
fault_number fine = 0
fault_number (fault k) = k

unfoldable pub step_of : Outcome Said → SppStep
step_of (accepted Changed) = record { refusal = 0; changed = 1 }
step_of (accepted Unchanged) = record { refusal = 0; changed = 0 }
step_of (refused n) = record { refusal = n; changed = 0 }

unfoldable pub reply_in : Option ℤ → SppReply
reply_in (Some total) = record { refusal = 0; is_plan = 1; price = total }
reply_in None = record { refusal = 0; is_plan = 0; price = pos 0 }
