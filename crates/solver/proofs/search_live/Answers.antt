-- The walk starts with no node entered, and its answer is the rules'.
use Rattle.solver.proofs.Ends.{fresh-count, ends}
use Rattle.solver.proofs.search_live.Goals as goal

pub node-tally-requires : goal.node-tally-requires
node-tally-requires c =
    let p = c.requires in
    record { some = p.some; count = fresh-count c.fresh_tally-fresh.result _ c.fresh_tally-fresh.ensures p.limited }

pub returns : goal.returns
returns c = ends c.fresh_tally-fresh.result _ c.fresh_tally-fresh.ensures c.requires.one _ _ _ _ c.settle-settled.ensures c.node-tally.result c.node-tally.ensures.tree
