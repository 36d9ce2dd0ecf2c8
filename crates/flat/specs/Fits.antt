-- The answers whose numbers fit into 32 bits.
use Rattle.std.specs.Prelude.{◌≡◌, ℕ, ◌≤◌}
use Rattle.refusals.specs.Refusals.{Outcome, accepted}
use Rattle.dutyfile.specs.declared.Shape.{Shape}
use Rattle.verify.specs.declared.Verdict.{Verdict}
use Rattle.verify.specs.declared.Verdict.TheVariants.{NotOnce}
use Rattle.reduce.specs.declared.Bound.{Bound}
use Rattle.answer.specs.Answer.{Values, told_best, told_none, told_stopped, no_plan, priced}

abbrev pub ShapeFits : Outcome Shape → Type 0
ShapeFits o = (found : Shape) → o ≡ accepted found → (found.rows ≤ 64) × (found.columns ≤ 256) × (found.entries ≤ 4096)

abbrev pub LengthFits : Outcome ℕ → Type 0
LengthFits o = (size : ℕ) → o ≡ accepted size → size ≤ 6152

abbrev pub RowFits : Outcome Verdict → Type 0
RowFits o = (row times : ℕ) → o ≡ accepted (NotOnce row times) → row ≤ 64

abbrev pub UsedFits : Outcome Bound → Type 0
UsedFits o = (found : Bound) → o ≡ accepted found → found.used ≤ 64

-- how many columns the plan shown has
unfoldable pub columns_in : Values → ℕ
columns_in (told_best c b n k) = k
columns_in (told_none n) = 0
columns_in (told_stopped b n no_plan) = 0
columns_in (told_stopped b n (priced c k)) = k

abbrev pub ColumnsFit : Outcome Values → Type 0
ColumnsFit o = (v : Values) → o ≡ accepted v → columns_in v ≤ 256
