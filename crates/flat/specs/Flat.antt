-- What a call comes to, as a struct of numbers for C: a refusal has 01's number and 0 in every other field; otherwise the refusal is 0, and
-- so is each field that the answer has no value for.
use Rattle.std.specs.Prelude.{cond, ℕ, eqb, pos}
use Rattle.refusals.specs.Refusals.{Outcome, accepted, refused}
use Rattle.dutyfile.specs.declared.Edition.{Edition}
use Rattle.dutyfile.specs.declared.Edition.TheVariants.{Spp1, Spp2}
use Rattle.dutyfile.specs.declared.Shape.{Shape}
use Rattle.verify.specs.declared.Verdict.{Verdict}
use Rattle.verify.specs.declared.Verdict.TheVariants.{Plan, NotOnce}
use Rattle.reduce.specs.declared.Bound.{Bound}
use Rattle.answer.specs.Answer.{Shown, no_plan, priced, Values, told_best, told_none, told_stopped}
use Rattle.flat.specs.declared.SppShape.{SppShape}
use Rattle.flat.specs.declared.SppWritten.{SppWritten}
use Rattle.flat.specs.declared.SppChecked.{SppChecked}
use Rattle.flat.specs.declared.SppReduced.{SppReduced}
use Rattle.flat.specs.declared.SppAnswer.{SppAnswer}

-- an edition's number
abbrev pub edition_number : Edition → ℕ
edition_number Spp1 = 1
edition_number Spp2 = 2

-- reading: m, n and t, and the edition
unfoldable pub shape_of : Outcome Shape → SppShape
shape_of (accepted found) =
    record { refusal = 0; rows = found.rows; columns = found.columns; entries = found.entries; edition = edition_number found.edition }
shape_of (refused k) = record { refusal = k; rows = 0; columns = 0; entries = 0; edition = 0 }

-- writing: the file's length
unfoldable pub written_of : Outcome ℕ → SppWritten
written_of (accepted size) = record { refusal = 0; length = size }
written_of (refused k) = record { refusal = k; length = 0 }

-- the plan check: a plan and its price, or a row's number, counted from 1, and how often it is covered
unfoldable pub checked_of : Outcome Verdict → SppChecked
checked_of (accepted (Plan cost)) = record { refusal = 0; is_plan = 1; row = 0; covered = 0; price = cost }
checked_of (accepted (NotOnce row times)) = record { refusal = 0; is_plan = 0; row = row; covered = times; price = pos 0 }
checked_of (refused k) = record { refusal = k; is_plan = 0; row = 0; covered = 0; price = pos 0 }

-- reducing: the number of rows used and the lower bound (01: floor)
unfoldable pub reduced_of : Outcome Bound → SppReduced
reduced_of (accepted found) = record { refusal = 0; used = found.used; bound = found.bound }
reduced_of (refused k) = record { refusal = k; used = 0; bound = pos 0 }

-- searching: the outcome is 1 for best, 2 for none, 3 for stopped
unfoldable pub answer_of : Outcome Values → SppAnswer
answer_of (accepted (told_best c b n k)) =
    record { refusal = 0; outcome = 1; has_plan = 1; columns = k; nodes = n; price = c; bound = b }
answer_of (accepted (told_none n)) =
    record { refusal = 0; outcome = 2; has_plan = 0; columns = 0; nodes = n; price = pos 0; bound = pos 0 }
answer_of (accepted (told_stopped b n no_plan)) =
    record { refusal = 0; outcome = 3; has_plan = 0; columns = 0; nodes = n; price = pos 0; bound = b }
answer_of (accepted (told_stopped b n (priced c k))) =
    record { refusal = 0; outcome = 3; has_plan = 1; columns = k; nodes = n; price = c; bound = b }
answer_of (refused k) =
    record { refusal = k; outcome = 0; has_plan = 0; columns = 0; nodes = 0; price = pos 0; bound = pos 0 }

-- the values that the struct's numbers say
unfoldable pub values_in : SppAnswer → Values
values_in r =
    let shown : Shown = cond (eqb r.has_plan 1) (priced r.price r.columns) no_plan in
    cond (eqb r.outcome 1) (told_best r.price r.bound r.nodes r.columns)
    (cond (eqb r.outcome 2) (told_none r.nodes) (told_stopped r.bound r.nodes shown))
