use mathlib.Core.Path.{◌∙◌}
use Rattle.std.proofs.Common.{◌<◌, rules, tests, arith}
use Rattle.std.proofs.lemmas.Grind.{get_or_default_zero}
use Rattle.std.proofs.lemmas.Iterator.{YieldsList-from_slice}
use Rattle.std.proofs.lemmas.Iterator.Adapters.{serves_from_places}
use Rattle.std.proofs.lemmas.Iterator.Search.{any_from_yields_List}
use Rattle.candidates.specs.Row.{zero_in}
use Rattle.candidates.proofs.Zero.{any_zero}
use Rattle.candidates.proofs.has_zero.Goals as goal

pub any-requires-clause-callable : goal.any-requires-clause-callable
any-requires-clause-callable c =
    serves_from_places (YieldsList-from_slice c.args.columns.now (search rules)) (λ x q k. search rules)
    (λ x k l e. let b : x.now < 256 = omega (arith, e, get_or_default_zero c.args.columns.now k x.now l, c.requires k l) in search rules)

pub returns : goal.returns
returns c =
    any_from_yields_List (zero_in c.args.cost.now c.args.column.now) _ _ _ c.any.ensures.ran (YieldsList-from_slice c.args.columns.now (search rules)) (λ x b q k. search (rules, tests)) ∙ any_zero _ _
