-- A live start is searched from its node; a dead one is entered and ends.
use Rattle.solver.proofs.Ends.{dead-room, dead-ends, live-ends}
use Rattle.solver.proofs.search_from.Goals as goal

pub returns-then-start : goal.returns-then-start
returns-then-start c = live-ends _ _ _ _ c.if-start.true c.search_live.result c.search_live.ensures

pub enter-requires : goal.enter-requires
enter-requires c =
    let p = c.requires in
    dead-room c.fresh_tally-fresh.result _ c.fresh_tally-fresh.ensures p.one p.limited

pub returns : goal.returns
returns c =
    dead-ends c.fresh_tally-fresh.result _ c.fresh_tally-fresh.ensures c.requires.one _ _ _ c.if-start.false
    c.enter.result c.enter.ensures
