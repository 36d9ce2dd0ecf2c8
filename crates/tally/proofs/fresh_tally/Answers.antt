-- There is no incumbent.
use mathlib.Core.Path.{refl}
use Rattle.tally.specs.Tally.{kept_by}
use Rattle.tally.proofs.fresh_tally.Goals as goal

pub returns : goal.returns
unfolding kept_by
returns c = λ w. refl
