use Rattle.dutyfile.proofs.Costs.{too_low, low-enough}
use Rattle.dutyfile.proofs.is_cost.Goals as goal

pub returns-then-cost-least_cost : goal.returns-then-cost-least_cost
returns-then-cost-least_cost c = too_low c.args.edition c.args.cost c.ranges.cost _ c.least_cost.type_inv c.least_cost.ensures c.if-cost-least_cost.true

pub returns : goal.returns
returns c = low-enough c.args.edition c.args.cost c.ranges.cost _ c.least_cost.type_inv c.least_cost.ensures c.if-cost-least_cost.false
