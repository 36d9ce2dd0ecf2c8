-- What the struct says is what the search call answers: no refusal has the number 0, and the outcomes' numbers differ.
use mathlib.Core.Path.{◌≡◌, refl}
use native.Mathlib.Omega.{arith}
use Rattle.std.specs.Prelude.{Result, Ok, Err}
use Rattle.refusals.specs.Refusals.{accepted}
use Rattle.refusals.specs.declared.Refusal.{Refusal}
use Rattle.refusals.proofs.Laws.{numbered}
use Rattle.answer.specs.declared.SearchAnswer.{SearchAnswer}
use Rattle.answer.specs.declared.SearchAnswer.TheVariants.{Best, None, Stopped, StoppedWith}
use Rattle.answer.specs.Answer.{Values, told, search_outcome}
use Rattle.flat.specs.declared.SppAnswer.{SppAnswer}
use Rattle.flat.specs.Flat.{answer_of, values_in}

values_flat : (a : Result SearchAnswer Refusal) → (answer_of (search_outcome a)).refusal ≡ 0 → search_outcome a ≡ accepted (values_in (answer_of (search_outcome a)))
unfolding search_outcome told answer_of values_in
values_flat (Ok (Best f)) h = refl
values_flat (Ok (None n)) h = refl
values_flat (Ok (Stopped f)) h = refl
values_flat (Ok (StoppedWith f)) h = refl
values_flat (Err w) h = absurd (omega (arith, numbered w))

-- so what holds of the values answered holds of these
pub values_hold : (Holds : Values → Type 0) (a : Result SearchAnswer Refusal) → ((v : Values) → search_outcome a ≡ accepted v → Holds v) →
    (r : SppAnswer) → r ≡ answer_of (search_outcome a) → r.refusal ≡ 0 → Holds (values_in r)
values_hold Holds a d r e h = rw e (d (values_in (answer_of (search_outcome a))) (values_flat a (rw e at h)))
