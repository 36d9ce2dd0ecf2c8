use mathlib.Core.Path.{◌∙◌}
use Prim.Native.Nat.{◌≤◌, ◌<◌}
use native.Mathlib.Omega.{arith}
use lib.ListN.{length-take}
use lib.Seq.{get_or-take}
use Rattle.vessel_sets.proofs.Loops.{at_start, at_next, at_small, at_reach, at-cost, picking_start, picking_next, picking_end}
use Rattle.vessel_sets.proofs.pick.Goals as goal

pub loop-j-init : goal.loop-j-init
loop-j-init c = (at_start _ _, picking_start _ _ _)

pub vessel_offer-requires : goal.vessel_offer-requires
vessel_offer-requires c =
    let h : c.loop-j.j < c.args.vessels = omega (arith, c.loop-j-test.true, length-take c.args.vessels c.args.row.now) in
    rw (get_or-take c.args.vessels c.args.row.now c.loop-j.j 0 h) (at_reach _ _ _ _ _ c.loop-j.invariant.0 h _ _ c.requires)

pub overflow_mul-w : goal.overflow_mul-w
overflow_mul-w c =
    let h : c.loop-j.j < c.args.vessels = omega (arith, c.loop-j-test.true, length-take c.args.vessels c.args.row.now) in
    omega (arith, at_small _ _ _ _ _ c.loop-j.invariant.0 h _ _ c.requires)

pub loop-j-preserved : goal.loop-j-preserved
loop-j-preserved c =
    let i = c.loop-j.invariant in
    let h : c.loop-j.j < c.args.vessels = omega (arith, c.loop-j-test.true, length-take c.args.vessels c.args.row.now) in
    let is = at-cost _ _ _ _ _ i.0 h _ _ c.requires _ (rw (get_or-take c.args.vessels c.args.row.now c.loop-j.j 0 h) at c.vessel_offer.ensures) in (
      at_next _ _ _ _ _ i.0 h,
      picking_next _ _ _ _ _ _ h is c.cheaper-best.ensures ∙ i.1,
    )

pub returns : goal.returns
returns c =
    let all : c.args.vessels ≤ c.loop-j.j = omega (arith, c.loop-j-test.false, length-take c.args.vessels c.args.row.now, c.requires.few) in
    picking_end _ _ _ _ all ∙ c.loop-j.invariant.1
