-- What P5 asks of an answer and of the list that is lent for it, afterwards: a field for each sentence.
use Rattle.std.specs.Prelude.{◌≡◌, List, ℕ, ◌<◌, get_or}
use Rattle.refusals.specs.Refusals.{Outcome, accepted}
use Rattle.assignments.specs.Assignment.{Assignment, Best, shown}
use Rattle.assign.specs.Answer.{Values, told_best, told_none}

pub record Assigned (t : List (List ℕ)) (m n : ℕ) (answer : Outcome Values) (list : List ℕ) : Type 0 where
  -- a total: the list shows an assignment that has it, none costs less, and of those that cost the same none comes before it
  pub shows : (x : ℕ) → answer ≡ accepted (told_best x) → Best t m n (shown list) x
  -- and the list counts vessels from 1
  pub counted : (x : ℕ) → answer ≡ accepted (told_best x) → (i : ℕ) → i < m → 0 < get_or list i 0
  -- none: there is no assignment
  pub none_right : answer ≡ accepted told_none → (f : ℕ → ℕ) → Assignment t m n f → ⊥
  -- and where there is no assignment, every answer but a refusal is none
  pub none_whole : ((f : ℕ → ℕ) → Assignment t m n f → ⊥) → (v : Values) → answer ≡ accepted v → v ≡ told_none
