-- The struct shows the call's answer: no refusal has the number 0, and the outcomes' numbers differ.
use mathlib.Core.Path.{◌≡◌, refl}
use native.Mathlib.Omega.{arith}
use borrow.Author.Tests.{ne_eqb}
use Rattle.std.specs.Prelude.{ℕ, Option, Some, None, Result, Ok, Err}
use Rattle.refusals.specs.declared.Refusal.{Refusal}
use Rattle.refusals.specs.Refusals.{number_of}
use Rattle.refusals.proofs.Laws.{numbered}
use Rattle.assign.specs.Answer.{assign_outcome}
use Rattle.flat_assign.specs.declared.SppAssigned.{SppAssigned}
use Rattle.flat_assign.specs.Struct.{assigned_of, outcome_in}

outcome_back : (a : Result (Option ℕ) Refusal) → outcome_in (assigned_of (assign_outcome a)) ≡ assign_outcome a
unfolding assign_outcome assigned_of outcome_in
outcome_back (Ok (Some x)) = refl
outcome_back (Ok None) = refl
outcome_back (Err w) = rw (ne_eqb (number_of w) 0 (λ e. omega (arith, numbered w)))

pub back : (a : Result (Option ℕ) Refusal) (r : SppAssigned) → r ≡ assigned_of (assign_outcome a) → outcome_in r ≡ assign_outcome a
back a r e = rw e (outcome_back a)
