-- Goal by goal, as the definition has it.
use mathlib.Core.Path.{◌∙◌}
use Rattle.goals.specs.Taking.{join_of}
use Rattle.goals.proofs.join.Goals as goal

pub returns-in-Sum : goal.returns-in-Sum
unfolding join_of
returns-in-Sum c = rw c.in-Sum.is

pub returns-in-Longest : goal.returns-in-Longest
unfolding join_of
returns-in-Longest c = c.max.ensures ∙ rw c.in-Longest.is
