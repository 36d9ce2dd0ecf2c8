-- The costs and the lengths of the columns are one filled part each.
use mathlib.Core.Path.{refl}
use native.Mathlib.Omega.{arith}
use Rattle.trial.proofs.Appending.{part_filled, appending_next, appending_end}
use Rattle.trial.proofs.append.Goals as goal

pub loop-i-preserved : goal.loop-i-preserved
loop-i-preserved c = appending_next _ _ _ _ _ _ c.loop-i.invariant c.loop-i-test.true

pub returns-clause-costs_after : goal.returns-clause-costs_after
returns-clause-costs_after c = part_filled _ _ _ _ _ _ refl (omega (arith, c.told-costs, c.requires.wide)) (c.fill.ensures.after (λ y e. e))

pub returns-clause-lengths_after : goal.returns-clause-lengths_after
returns-clause-lengths_after c = part_filled _ _ _ _ _ _ refl (omega (arith, c.told-lengths, c.requires.wide)) (c.fill-2.ensures.after (λ y e. e))

pub returns-clause-numbers_after : goal.returns-clause-numbers_after
returns-clause-numbers_after c = appending_end _ _ _ _ _ _ c.loop-i.invariant c.loop-i-test.false
