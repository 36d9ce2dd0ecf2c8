-- Nothing is above the penalty of number 0, which is above any other.
use Rattle.choice.proofs.Criteria.{above_most, most_above, just_above}
use Rattle.choice.proofs.is_above.Goals as goal

pub returns-then-b-eq0 : goal.returns-then-b-eq0
returns-then-b-eq0 c = above_most _ _ c.if-b-eq0.true

pub returns-then-a-eq0 : goal.returns-then-a-eq0
returns-then-a-eq0 c = most_above _ _ c.if-b-eq0.false c.if-a-eq0.true

pub returns : goal.returns
returns c = just_above _ _ c.if-b-eq0.false c.if-a-eq0.false
