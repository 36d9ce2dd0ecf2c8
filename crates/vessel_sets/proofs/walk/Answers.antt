use native.Mathlib.Omega.{arith}
use Rattle.vessel_sets.proofs.Walking.{walking_start, walking_place, walking_row, walking_low, walking_weight, walking_next, walking_end}
use Rattle.vessel_sets.proofs.walk.Goals as goal

pub loop-crew-init : goal.loop-crew-init
loop-crew-init c = let p = c.requires in walking_start _ _ _ _ _ p.0 p.1 p.2 p.3

pub pick-best-requires : goal.pick-best-requires
pick-best-requires c = walking_row _ _ _ _ _ _ _ _ c.loop-crew.invariant c.loop-crew-test.true

pub overflow_add-answer : goal.overflow_add-answer
overflow_add-answer c = omega (arith, walking_low _ _ _ _ _ _ _ _ c.loop-crew.invariant c.loop-crew-test.true _ c.pick-best.ensures)

pub overflow_cast-answer : goal.overflow_cast-answer
overflow_cast-answer c = omega (arith, walking_low _ _ _ _ _ _ _ _ c.loop-crew.invariant c.loop-crew-test.true _ c.pick-best.ensures)

pub overflow_shl-s : goal.overflow_shl-s
overflow_shl-s c = omega (arith, walking_low _ _ _ _ _ _ _ _ c.loop-crew.invariant c.loop-crew-test.true _ c.pick-best.ensures)

pub overflow_add-s : goal.overflow_add-s
overflow_add-s c =
    let i = c.loop-crew.invariant in
    let h = c.loop-crew-test.true in
    let e = c.pick-best.ensures in
    omega (arith, walking_place _ _ _ _ _ _ _ _ (walking_next _ _ _ _ _ _ _ _ i h _ e _ (walking_weight _ _ _ _ _ _ _ _ i h _ e)))

pub loop-crew-preserved : goal.loop-crew-preserved
loop-crew-preserved c =
    let i = c.loop-crew.invariant in
    let h = c.loop-crew-test.true in
    let e = c.pick-best.ensures in
    walking_next _ _ _ _ _ _ _ _ i h _ e _ (walking_weight _ _ _ _ _ _ _ _ i h _ e)

pub returns : goal.returns
returns c = walking_end _ _ _ _ _ _ _ _ c.loop-crew.invariant c.loop-crew-test.false
