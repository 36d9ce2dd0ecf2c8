use Rattle.matrix.proofs.Putting.{copying_next, copying_end}
use Rattle.matrix.proofs.put_body.Goals as goal

pub loop-k-preserved : goal.loop-k-preserved
loop-k-preserved c = copying_next _ _ _ _ _ c.loop-k.invariant c.loop-k-test.true

pub returns : goal.returns
returns c = copying_end _ _ _ _ _ c.loop-k.invariant c.loop-k-test.false
