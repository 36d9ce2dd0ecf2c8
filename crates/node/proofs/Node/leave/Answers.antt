-- The marks with one set to 0 are the table that the definition makes.
use borrow.Author.Rules.{rules}
use Rattle.node.proofs.Taking.{left_is}
use Rattle.node.proofs.Node.leave.Goals as goal

pub returns : goal.returns
returns c = left_is _ _ (search rules)
