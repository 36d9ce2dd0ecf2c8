-- Lists of numbers of columns, counted from 1, that the steps on a node can work with.
use Rattle.std.specs.Prelude.{List, ℕ}
use Rattle.node.specs.declared.Node.{Node}
use Rattle.node.specs.Matrix.{width}
use Rattle.node.specs.Stored.{matrix_in}
use Rattle.rules.specs.declared.Goal.{Goal}
use Rattle.rules.proofs.Goals.{WorkableFor}
use Rattle.rules.proofs.Numbers.{Numbers}

-- a workable node, and numbers of its matrix's columns
pub record Takeable (g : Goal) (l : List ℕ) (s : Node) (js : List ℕ) : Type 0 where
  pub some : WorkableFor g l s
  pub numbered : Numbers (width (matrix_in l)) js

-- both lists
pub record Begins (g : Goal) (l : List ℕ) (s : Node) (js ks : List ℕ) : Type 0 where
  pub some : WorkableFor g l s
  pub agreed : Numbers (width (matrix_in l)) js
  pub absent : Numbers (width (matrix_in l)) ks
