-- What the reducing loop comes to.
use Rattle.std.specs.Prelude.{◌≡◌, map, suc, length, take}
use Rattle.node.specs.declared.Node.{Node}
use Rattle.node.specs.Matrix.{Matrix}
use Rattle.rules.specs.Reduce.{reduce}
use Rattle.lowering.specs.declared.Reduction.{Reduction}

-- the node reduced, and the rows used, numbered from 1
pub record Done (p : Matrix) (s : Node) (r : Reduction) : Type 0 where
  pub node_is : r.node ≡ (reduce p s).node
  pub used_is : take r.count r.used ≡ map suc (reduce p s).used
  pub count_is : r.count ≡ length (reduce p s).used
