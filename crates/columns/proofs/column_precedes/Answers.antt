-- The products that the definition compares.
use mathlib.Core.Path.{refl}
use Rattle.columns.specs.Column.{column_precedes}
use Rattle.columns.proofs.column_precedes.Goals as goal

pub returns : goal.returns
unfolding column_precedes
returns c = refl
