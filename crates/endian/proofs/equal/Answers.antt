use mathlib.Core.Path.{◌∙◌}
use Rattle.endian.proofs.Laws.{same_pointwise}
use Rattle.endian.proofs.equal.Goals as goal

pub returns : goal.returns
returns c = c.eq.ensures ∙ same_pointwise _ _
