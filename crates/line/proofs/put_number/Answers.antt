-- The digits come after the space.
use Rattle.line.proofs.Puts.{put-field}
use Rattle.line.proofs.put_number.Goals as goal

pub returns-clause-put : goal.returns-clause-put
returns-clause-put c = put-field _ _ _ _ _ _ c.put.ensures c.put_digits.ensures.put
