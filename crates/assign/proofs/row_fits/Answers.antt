-- Each of the costs is tested.
use mathlib.Core.Path.{◌∙◌}
use lib.Dec.{leb}
use lib.ListN.{take}
use native.Mathlib.Omega.{arith}
use borrow.Author.Rules.{rules}
use Rattle.std.proofs.Common.{tests}
use Rattle.std.proofs.lemmas.Iterator.{YieldsList-from_slice}
use Rattle.std.proofs.lemmas.Iterator.Search.{all_from_yields_List}
use Rattle.assign.proofs.Tests.{all_front}
use Rattle.assign.proofs.row_fits.Goals as goal

pub returns : goal.returns
returns c =
    all_from_yields_List (λ x. leb x 1000000) _ _ _ c.all.ensures.ran (YieldsList-from_slice (take c.args.vessels c.args.row) cc) (λ x b q k. search (rules, tests))
    ∙ all_front (λ x. leb x 1000000) 0 c.args.row c.args.vessels (omega arith)
