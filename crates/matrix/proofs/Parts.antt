-- All rows together have no more columns than all bodies have row numbers.
use Prim.Native.Nat.{ℕ, ◌≤◌}
use native.Mathlib.Omega.{arith}
use lib.ListN.{length}
use Rattle.node.specs.Lists.{on, total}
use Rattle.node.specs.Matrix.{Matrix, width, body, span, covers}
use Rattle.rules.proofs.Sums.{total_cong, total_le, total_swap, length-keep}
use Rattle.node.specs.Stored.{Small, row_columns}
use Rattle.matrix.proofs.Members.{members_le}

pub rows-full : (p : Matrix) → Small p → total p.rows (λ i. length (row_columns p i)) ≤ 4096
unfolding covers
rows-full p s =
    let f : ℕ → ℕ → ℕ = λ i j. on (covers p i j) 1 in
    omega (
      arith,
      s.full,
      total_cong p.rows (λ i. length (row_columns p i)) (λ i. total (width p) (f i)) (λ i l. length-keep (width p) (covers p i)),
      total_swap (width p) p.rows f,
      total_le (width p) (λ j. total p.rows (λ i. f i j)) (span p) (λ j l. members_le p.rows (body p j)),
    )
