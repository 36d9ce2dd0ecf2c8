use mathlib.Core.Path.{◌∙◌}
use lib.Dec.{eqb}
use Rattle.std.proofs.Common.{rules, tests}
use Rattle.std.proofs.lemmas.Iterator.{YieldsList-from_slice}
use Rattle.std.proofs.lemmas.Iterator.Search.{any_from_yields_List}
use Rattle.requests.proofs.Loops.{holds_is}
use Rattle.requests.proofs.holds.Goals as goal

pub returns : goal.returns
returns c =
    any_from_yields_List (λ y. eqb y c.args.number) _ _ _ c.any.ensures.ran (YieldsList-from_slice c.args.numbers.now (search rules)) (λ x b q k. search (rules, tests)) ∙ holds_is _ _
