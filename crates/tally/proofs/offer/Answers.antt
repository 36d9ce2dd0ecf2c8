-- The incumbent stays where the node's bound reaches it, and else the node's taken columns are kept.
use mathlib.Core.Path.{ap, sym, ◌∙◌}
use Rattle.rules.specs.Search.{Incumbent}
use Rattle.rules.specs.Limited.{Tally}
use Rattle.tally.proofs.Offers.{stays, yields}
use Rattle.tally.proofs.offer.Goals as goal

pub returns-then-is_reached : goal.returns-then-is_reached
returns-then-is_reached c =
    λ w.
    let t = c.args.t in
    ap {B = Tally} (λ (k : Incumbent). record { nodes = t.nodes; left = t.left; stopped = t.stopped; kept = k })
    (stays _ _ _ _ _ (sym c.is_reached.ensures ∙ c.if-is_reached.true))

pub returns : goal.returns
returns c =
    λ w.
    let t = c.args.t in
    ap {B = Tally} (λ (k : Incumbent). record { nodes = t.nodes; left = t.left; stopped = t.stopped; kept = k })
    (yields _ _ _ _ _ (sym c.is_reached.ensures ∙ c.if-is_reached.false))
