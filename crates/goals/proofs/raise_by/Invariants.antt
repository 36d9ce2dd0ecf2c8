-- What was read gives the least cost of the free ones among it; a column that costs no more than the bound decides.
use mathlib.Core.Bool.{Bool}
use mathlib.Core.List.{List}
use Prim.Native.Nat.{ℕ}
use lib.ListN.{get_or}
use lib.Dec.{eqb}
use Rattle.node.proofs.Passes.{Telling}
use Rattle.goals.proofs.Raising.{told}
use Rattle.goals.proofs.raise_by.Given as goal

abbrev free : List ℕ → ℕ → Bool
free column j = eqb (get_or column j 0) 1

abbrev cost_of_lem : List ℕ → ℕ → ℕ
cost_of_lem cost j = get_or cost j 0

abbrev pub invariant-loop-j : goal.invariant-loop-j
invariant-loop-j l = Telling (told (cost_of_lem l.cost)) (free l.column) l.columns l.least l.j-index
