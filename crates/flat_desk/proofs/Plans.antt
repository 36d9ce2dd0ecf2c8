-- The struct of a reply that is a plan, as its cost is read back from its bits.
use mathlib.Core.Path.{◌≡◌}
use lib.IntN.{ℤ}
use mir.Syntax.{w32}
use mir.Val.{SFits, to_z, of_z}
use mir.Facts.{to_z-of_z}
use Rattle.std.specs.Prelude.{Some}
use Rattle.flat_desk.specs.Struct.{reply_in}

pub plan_struct : (total : ℤ) → SFits w32 total → record { refusal = 0; is_plan = 1; price = to_z w32 (of_z w32 total) } ≡ reply_in (Some total)
unfolding reply_in
plan_struct total f = rw (to_z-of_z f)
