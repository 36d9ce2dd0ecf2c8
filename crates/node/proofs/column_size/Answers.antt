-- The part that is the body ends within the list, at a place below 65536.
use mathlib.Core.Path.{ap}
use Prim.Native.Nat.{◌+◌}
use lib.ListN.{length}
use native.Mathlib.Omega.{arith}
use Rattle.node.proofs.Parts.{span-low}
use Rattle.node.proofs.column_size.Goals as goal

pub overflow_cast-result : goal.overflow_cast-result
overflow_cast-result c = omega (arith, span-low _ _ c.requires, ap length c.column_part.ensures, c.type_inv.matrix (67 + c.args.j + 1))
