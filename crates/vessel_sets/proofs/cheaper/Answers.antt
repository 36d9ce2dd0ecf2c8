-- The vessel is picked if it comes to less, and else the pick stays.
use mathlib.Core.Path.{sym}
use Rattle.assignments.proofs.Picks.{lower-less, lower-kept}
use Rattle.vessel_sets.proofs.cheaper.Goals as goal

pub returns-then-cost-best : goal.returns-then-cost-best
returns-then-cost-best c = sym (lower-less _ _ _ c.if-cost-best.true)

pub returns : goal.returns
returns c = sym (lower-kept _ _ _ c.if-cost-best.false)
