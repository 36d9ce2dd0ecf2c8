-- A column taken, by the goal.
use Rattle.std.specs.Prelude.{List, ℕ, ◌+◌, max}
use Rattle.node.specs.declared.Node.{Node}
use Rattle.node.specs.Stored.{matrix_in}
use Rattle.rules.specs.declared.Goal.{Goal}
use Rattle.rules.specs.declared.Goal.TheVariants.{Sum, Longest}
use Rattle.rules.proofs.Plans.{Free}
use Rattle.rules.proofs.Goals.{WorkableFor}

-- the bound with a column of cost c taken
unfoldable pub join_of : Goal → ℕ → ℕ → ℕ
join_of Sum b c = b + c
join_of Longest b c = max b c

-- a workable node, and a free column of it
pub record Takes (g : Goal) (l : List ℕ) (s : Node) (j : ℕ) : Type 0 where
  pub some : WorkableFor g l s
  pub free : Free (matrix_in l) s j
