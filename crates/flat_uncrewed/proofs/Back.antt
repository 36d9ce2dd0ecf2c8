-- The struct shows the call's answer: no refusal has the number 0, and the outcomes' numbers differ.
use mathlib.Core.Path.{◌≡◌, refl}
use native.Mathlib.Omega.{arith}
use borrow.Author.Tests.{ne_eqb}
use Rattle.refusals.specs.Refusals.{number_of}
use Rattle.refusals.proofs.Laws.{numbered}
use Rattle.refusals.specs.declared.Refusal.{Refusal}
use Rattle.std.specs.Prelude.{Result, Ok, Err}
use Rattle.uncrewed.specs.declared.UncrewedAnswer.{UncrewedAnswer}
use Rattle.uncrewed.specs.declared.UncrewedAnswer.TheVariants.{NoCrew, PlanExists, Stopped}
use Rattle.uncrewed.specs.Answer.{told, uncrewed_outcome}
use Rattle.flat_uncrewed.specs.declared.SppUncrewed.{SppUncrewed}
use Rattle.flat_uncrewed.specs.Struct.{uncrewed_of, uncrewed_in}

outcome_back : (a : Result UncrewedAnswer Refusal) → uncrewed_in (uncrewed_of (uncrewed_outcome a)) ≡ uncrewed_outcome a
unfolding told uncrewed_outcome uncrewed_of uncrewed_in
outcome_back (Ok (NoCrew f)) = refl
outcome_back (Ok PlanExists) = refl
outcome_back (Ok (Stopped k)) = refl
outcome_back (Err w) = rw (ne_eqb (number_of w) 0 (λ e. omega (arith, numbered w)))

pub back : (a : Result UncrewedAnswer Refusal) (r : SppUncrewed) → r ≡ uncrewed_of (uncrewed_outcome a) → uncrewed_in r ≡ uncrewed_outcome a
back a r e = rw e (outcome_back a)
