-- What the two functions of the tree need, what the branches of a node are, and what a node branches on.
use Rattle.std.specs.Prelude.{◌≡◌, List, [], ◌∷◌, ℕ, ◌+◌, ◌≤◌, ◌<◌, length}
use Rattle.node.specs.declared.Node.{Node}
use Rattle.node.specs.Lists.{pick}
use Rattle.node.specs.Matrix.{Matrix}
use Rattle.node.specs.Node.{open_rows, cost_at}
use Rattle.node.specs.Stored.{matrix_in, Kept}
use Rattle.rules.specs.declared.Goal.{Goal}
use Rattle.rules.specs.Search.{Visit, ended}
use Rattle.rules.specs.Tree.{Variant, sum, without_bound, zeros, penalty, row_before, column_before, branch_on}
use Rattle.rules.specs.Goals.{search_for}
use Rattle.rules.proofs.Plans.{Free}
use Rattle.rules.proofs.Forcing.{TwoFree}
use Rattle.rules.proofs.Variants.{ZeroIn}
use Rattle.rules.proofs.Goals.{WorkableFor}
use Rattle.rules.proofs.Sides.{SideFits, WorkableWith}
use Rattle.tally.specs.declared.Tally.{Tally}
use Rattle.tree.specs.declared.Choice.{Choice}

-- a workable node, and no more nodes than the largest node limit
pub record Walks (g : Goal) (side l : List ℕ) (s : Node) (t : Tally) : Type 0 where
  pub some : WorkableWith g side l s
  pub count : t.nodes + t.left ≤ 1000000

-- a node that is settled and neither dead nor a plan: i ∷ is are its open rows
pub record Splits (o : Variant) (p : Matrix) (s : Node) : Type 0 where
  pub two : TwoFree p s
  pub zero : ZeroIn p o s
  pub i : ℕ
  pub is : List ℕ
  pub opened : open_rows p s ≡ i ∷ is

pub record Branches (g : Goal) (l : List ℕ) (s : Node) : Type 0 where
  pub some : WorkableFor g l s
  pub splits : Splits (search_for g (matrix_in l)) (matrix_in l) s

pub record Branching (g : Goal) (side l : List ℕ) (s : Node) (t : Tally) : Type 0 where
  pub node : Branches g l s
  pub fits : SideFits l side
  pub count : t.nodes + t.left ≤ 1000000

-- the branches on a row, of the open ones
unfoldable pub branches_of : Variant → Matrix → Node → List ℕ → Visit Node
branches_of o p s [] = ended
branches_of o p s (i ∷ is) =
    let r : ℕ = pick (row_before o p s) i is in
    branch_on o p s (penalty o p s r) (zeros o p s r)

abbrev pub branches : Variant → Matrix → Node → Visit Node
branches o p s = branches_of o p s (open_rows p s)

-- what a node branches on: of the row's columns at cost 0 the one that is picked, and the bound without it
unfoldable pub column_of : Variant → Matrix → Node → List ℕ → ℕ
column_of o p s [] = 0
column_of o p s (j ∷ js) = pick (column_before o p s) j js

unfoldable pub choice_by : Variant → Matrix → Node → List ℕ → Choice
choice_by o p s [] = record { column = 0; bound = 0 }
choice_by o p s (i ∷ is) =
    let r : ℕ = pick (row_before o p s) i is in
    record { column = column_of o p s (zeros o p s r); bound = without_bound s.bound (zeros o p s r) (penalty o p s r) }

abbrev pub choice_of : Variant → Matrix → Node → Choice
choice_of o p s = choice_by o p s (open_rows p s)

-- the choice by a table of costs: the bound has room for each of them
pub record Choosable (l : List ℕ) (s : Node) : Type 0 where
  pub kept : Kept l
  pub room : (j : ℕ) → Free (matrix_in l) s j → s.bound + cost_at s j < 4294967296
  pub splits : Splits (sum (matrix_in l)) (matrix_in l) s

-- the choice for a goal, of a node whose costs are a table
pub record Chooses (g : Goal) (l : List ℕ) (s : Node) : Type 0 where
  pub wide : length s.cost ≡ 256
  pub node : Branches g l s
