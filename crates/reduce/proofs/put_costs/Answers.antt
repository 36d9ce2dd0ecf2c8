-- The places that are left give what all of them give.
use Rattle.reduce.proofs.Filled.{copying_start, copying_fits, copying_place, copying_next, copying_end}
use Rattle.reduce.proofs.put_costs.Goals as goal

pub loop-j-init : goal.loop-j-init
loop-j-init c = copying_start _ _ c.requires

pub overflow_cast-dst : goal.overflow_cast-dst
overflow_cast-dst c = copying_fits _ _ _ _ c.loop-j.invariant c.loop-j-test.true

pub bounds-dst-j : goal.bounds-dst-j
bounds-dst-j c = copying_place _ _ _ _ c.loop-j.invariant c.loop-j-test.true

pub loop-j-preserved : goal.loop-j-preserved
loop-j-preserved c = copying_next _ _ _ _ c.loop-j.invariant c.loop-j-test.true

pub returns : goal.returns
returns c = copying_end _ _ _ _ c.loop-j.invariant c.loop-j-test.false
