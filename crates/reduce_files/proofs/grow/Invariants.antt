-- The place after the bodies so far is within the list, and the first row is one of the rows.
use mathlib.Core.Path.{◌≡◌}
use Prim.Native.Nat.{◌≤◌}
use lib.ListN.{length}
use Rattle.reduce_files.proofs.grow.Given as goal

abbrev pub invariant-loop-j : goal.invariant-loop-j
invariant-loop-j l = (length l.numbers ≡ length l.initial.numbers) × (l.first ≤ 64) × (l.end ≤ length l.initial.numbers)
