-- The lowered costs of the row's columns are the definition's table.
use Rattle.node.proofs.Parts.{row_columns_lem}
use Rattle.lowering.proofs.Lowered.{row-covered, row-rising, lower-is}
use Rattle.lowering.proofs.lower.Goals as goal

pub lower_costs-requires : goal.lower_costs-requires
lower_costs-requires c =
    let k = c.requires in
    let r = c.row_part.ensures in
    (row-covered _ _ _ _ _ _ r k.covered, row-rising _ _ _ r, row_columns_lem _ k.has.kept.small _ _ r)

pub returns : goal.returns
returns c = lower-is _ _ _ _ _ _ c.row_part.ensures c.requires.wide _ c.lower_costs.ensures
