-- `node` and `branch` call each other. Each node that is entered below a branch has a column less that is free, so twice their number, and
-- one more for a node, falls with each call. What each gives is the walk within the limit, at any fuel above the free columns.
use Prim.Native.Nat.{◌+◌, ◌*◌}
use Rattle.node.specs.Stored.{matrix_in}
use Rattle.rules.proofs.Rows.{size}
use Rattle.tree.proofs.+branch_node.Given as goal

abbrev pub decreases-branch : goal.decreases-branch
decreases-branch l = 2 * size (matrix_in l.matrix.now) l.s

abbrev pub decreases-node : goal.decreases-node
decreases-node l = 2 * size (matrix_in l.matrix.now) l.s + 1
