-- Whether a row is open is found at the first one that is, or where none is left to be seen.
use mathlib.Core.Path.{◌≡◌, sym, ◌∙◌}
use mathlib.Core.Bool.{Bool, true, false}
use mathlib.Core.List.{List, []}
use Prim.Native.Nat.{ℕ, ◌+◌, ◌-◌, ◌≤◌, ◌<◌}
use native.Mathlib.Nat.{sub-zero}
use native.Mathlib.Omega.{arith}
use lib.ListN.{get_or}
use lib.Dec.{eqb}
use borrow.Author.Tests.{eq-eqb, ne_eqb}
use Rattle.node.specs.Lists.{keep, from, is_empty}
use Rattle.node.specs.Matrix.{Matrix}
use Rattle.node.specs.Node.{open_rows}
use Rattle.node.specs.View.{view}
use Rattle.node.proofs.Loops.{from_next}

-- of the rows from i on
abbrev none_from : List ℕ → ℕ → ℕ → Bool
none_from row rows i = is_empty (keep (λ k. eqb (get_or row k 0) 1) (from (rows - i) i))

pub record Seen (p : Matrix) (row : List ℕ) (rows i : ℕ) : Type 0 where
  pub low : i ≤ rows
  pub tall : rows ≤ 64
  pub left : none_from row rows i ≡ is_empty (open_rows p (view [] [] row))

pub seen_start : (p : Matrix) (row : List ℕ) (rows : ℕ) → p.rows ≤ 64 → rows ≡ p.rows → Seen p row rows 0
unfolding open_rows
seen_start p row rows t e = record { low = omega arith; tall = omega arith; left = rw (e, sub-zero) }

module _ (p : Matrix) (row : List ℕ) (rows i : ℕ) (w : Seen p row rows i) where
  pub seen_next : i < rows → (get_or row i 0 ≡ 1 → ⊥) → Seen p row rows (i + 1)
  unfolding keep
  seen_next l h = record { low = omega arith; tall = w.tall; left = sym (rw (from_next rows i l, ne_eqb (get_or row i 0) 1 h)) ∙ w.left }

  pub seen_open : i < rows → get_or row i 0 ≡ 1 → false ≡ is_empty (open_rows p (view [] [] row))
  unfolding keep is_empty
  seen_open l h = (rw (from_next rows i l, eq-eqb (get_or row i 0) 1 h) at w.left)

  pub seen_end : rows ≤ i → true ≡ is_empty (open_rows p (view [] [] row))
  unfolding keep is_empty from
  seen_end l = let z : rows - i ≡ 0 = omega (arith, w.low) in rw z at w.left
