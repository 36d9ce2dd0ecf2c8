-- By whether a row is off.
use mathlib.Core.Path.{◌≡◌, refl, ap, ◌∙◌}
use mathlib.Core.Bool.{Bool, true, false, cond}
use lib.Dec.{eqb}
use mir.Facts.{to_z-of_z}
use Rattle.std.specs.Prelude.{Some, None}
use Rattle.std.specs.Bool.{then_some}
use Rattle.desk.specs.Desk.{replying}
use Rattle.desk.proofs.reply.Goals as goal

by_test : {A : Type 0} (t : Bool) (x : A) → then_some t x ≡ cond t (Some x) None
by_test true x = refl
by_test false x = refl

pub returns : goal.returns
unfolding replying
returns c = c.then_some.ensures ∙ by_test _ _ ∙ ap (λ z. cond (eqb c.args.off 0) (Some z) None) (to_z-of_z c.ranges.total)
