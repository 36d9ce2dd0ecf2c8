-- What the search of a matrix comes to.
use Rattle.std.specs.Prelude.{List, ℕ, ◌≤◌}
use Rattle.node.specs.declared.Node.{Node}
use Rattle.rules.specs.declared.Goal.{Goal}
use Rattle.rules.specs.Search.{Answer}
use Rattle.rules.specs.Limited.{answer_from}
use Rattle.rules.proofs.Sides.{WorkableWith}
use Rattle.tally.specs.Tally.{shown}
use Rattle.solver.specs.declared.Solved.{Solved}

-- a workable first node, and a node limit in range
pub record Searchable (g : Goal) (side l : List ℕ) (s : Node) (limit : ℕ) : Type 0 where
  pub some : WorkableWith g side l s
  pub one : 1 ≤ limit
  pub limited : limit ≤ 1000000

-- the answer that a tally and a bound give, of a matrix with w columns
abbrev pub solved_answer : ℕ → Solved → Answer
solved_answer w r = answer_from (shown w r.tally) r.bound
