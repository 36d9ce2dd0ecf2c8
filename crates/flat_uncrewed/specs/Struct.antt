-- What the call for sailings that can't be crewed comes to, as a struct of numbers for C: a refusal has its number and 0 in every other
-- field; otherwise the refusal is 0, and the outcome is 1 where there is no crew for the row, 2 where a plan exists and 3 for stopped.
use Rattle.std.specs.Prelude.{cond, eqb}
use Rattle.refusals.specs.Refusals.{Outcome, accepted, refused}
use Rattle.uncrewed.specs.Answer.{Values, is_no_crew, is_plan, told_stopped}
use Rattle.flat_uncrewed.specs.declared.SppUncrewed.{SppUncrewed}

unfoldable pub uncrewed_of : Outcome Values → SppUncrewed
uncrewed_of (accepted (is_no_crew k n)) = record { refusal = 0; outcome = 1; row = k; columns = n }
uncrewed_of (accepted is_plan) = record { refusal = 0; outcome = 2; row = 0; columns = 0 }
uncrewed_of (accepted (told_stopped k)) = record { refusal = 0; outcome = 3; row = k; columns = 0 }
uncrewed_of (refused n) = record { refusal = n; outcome = 0; row = 0; columns = 0 }

-- the answer as a reader of the struct sees it
unfoldable pub uncrewed_in : SppUncrewed → Outcome Values
uncrewed_in r =
    let found : Values = cond (eqb r.outcome 1) (is_no_crew r.row r.columns) (cond (eqb r.outcome 2) is_plan (told_stopped r.row)) in
    cond (eqb r.refusal 0) (accepted found) (refused r.refusal)
