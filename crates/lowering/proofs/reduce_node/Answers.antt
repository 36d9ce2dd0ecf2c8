use native.Mathlib.Omega.{arith}
use borrow.Author.Rules.{rules}
use Rattle.lowering.proofs.Looped.{reducing_start, reducing-lower, reducing-fits, reducing-room, reducing_next, reducing-end}
use Rattle.lowering.proofs.reduce_node.Goals as goal

pub loop-best-init : goal.loop-best-init
loop-best-init c = reducing_start _ _ _ _ _ c.requires (search rules) (search rules) c.best_candidate-best.ensures

pub lower-requires : goal.lower-requires
lower-requires c = rw c.loop-best.invariant.marks (reducing-lower _ _ _ _ _ _ _ c.loop-best.invariant c.loop-best-test.true)

pub overflow_add-node : goal.overflow_add-node
overflow_add-node c = omega (arith, reducing-fits _ _ _ _ _ _ _ c.loop-best.invariant c.loop-best-test.true)

pub overflow_add-used : goal.overflow_add-used
overflow_add-used c = omega (arith, (reducing-room _ _ _ _ _ _ _ c.loop-best.invariant c.loop-best-test.true).0)

pub overflow_cast-used : goal.overflow_cast-used
overflow_cast-used c = omega (arith, (reducing-room _ _ _ _ _ _ _ c.loop-best.invariant c.loop-best-test.true).0)

pub bounds-used-count : goal.bounds-used-count
bounds-used-count c = (reducing-room _ _ _ _ _ _ _ c.loop-best.invariant c.loop-best-test.true).1

pub loop-best-smaller : goal.loop-best-smaller
loop-best-smaller c = omega (arith, (reducing-room _ _ _ _ _ _ _ c.loop-best.invariant c.loop-best-test.true).1)

pub loop-best-preserved : goal.loop-best-preserved
loop-best-preserved c = reducing_next _ _ _ _ _ _ _ c.loop-best.invariant c.loop-best-test.true _ (rw (← c.loop-best.invariant.marks) c.lower.ensures) _ _ c.best_candidate-best-in-loop-best.ensures

pub returns : goal.returns
returns c = reducing-end _ _ _ _ _ _ _ c.loop-best.invariant c.loop-best-test.false
