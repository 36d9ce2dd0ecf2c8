-- Each of the rows is tested.
use mathlib.Core.Path.{◌∙◌}
use mathlib.Core.List.{[]}
use lib.ListN.{take, get_or}
use native.Mathlib.Omega.{arith}
use borrow.Author.Rules.{rules}
use Rattle.std.proofs.Common.{tests}
use Rattle.std.proofs.lemmas.Iterator.{YieldsList-from_slice}
use Rattle.std.proofs.lemmas.Iterator.Search.{all_from_yields_List}
use Rattle.assign.specs.Answer.{row_fits}
use Rattle.assign.proofs.Tests.{all_front}
use Rattle.assign.proofs.costs_fit.Goals as goal

pub returns : goal.returns
returns c =
    all_from_yields_List (λ row. row_fits (λ j. get_or row j 0) c.args.vessels) _ _ _ c.all.ensures.ran (YieldsList-from_slice (take c.args.crews c.args.table) cc)
    (λ x b q k. search (rules, tests))
    ∙ all_front (λ row. row_fits (λ j. get_or row j 0) c.args.vessels) [] c.args.table c.args.crews (omega arith)
