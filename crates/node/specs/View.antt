-- A node by its tables, as code that borrows them sees it.
use Rattle.std.specs.Prelude.{List, ℕ}
use Rattle.node.specs.declared.Node.{Node}

-- the node with these tables and bound; and with any bound, where it does not matter
abbrev pub node_of : List ℕ → List ℕ → List ℕ → ℕ → Node
node_of cost column row bound = record { cost = cost; column = column; row = row; bound = bound }

abbrev pub view : List ℕ → List ℕ → List ℕ → Node
view cost column row = node_of cost column row 0
