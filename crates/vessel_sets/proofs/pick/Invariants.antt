-- The vessels left to look at give the pick.
use mathlib.Core.Path.{◌≡◌}
use Prim.Native.Nat.{◌-◌}
use Rattle.assignments.specs.Sets.{pick_from, pick}
use Rattle.vessel_sets.specs.Table.{offers_in}
use Rattle.vessel_sets.proofs.Loops.{At}
use Rattle.vessel_sets.proofs.pick.Given as goal

abbrev pub invariant-loop-j : goal.invariant-loop-j
invariant-loop-j l = At l.vessels l.s l.w l.rest l.j × (pick_from (offers_in l.fn.row l.least l.s) l.best (l.vessels - l.j) l.j ≡ pick (offers_in l.fn.row l.least l.s) l.vessels)
