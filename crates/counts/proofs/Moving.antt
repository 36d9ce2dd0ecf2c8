-- The rows of a body one by one: what is left to do from a place on.
use Rattle.std.proofs.Common.{◌≡◌, ℕ, ◌+◌, ◌-◌, ◌<◌, ◌≤◌, List, length, get_or, drop, set, arith, drop_of_length-le}
use Rattle.node.proofs.Loops.{drop-step}
use Rattle.counts.specs.Counts.{Counts, counts_of, plus, off_by, row_moved, rows_moved}

-- one row, as the code changes its numbers
pub row_is : (by i : ℕ) (c : List ℕ) (o old new change next : ℕ) → old ≡ get_or c i 0 → new ≡ plus old by → change ≡ off_by old new → next ≡ plus o change →
    counts_of (set c i new) next ≡ row_moved by i (counts_of c o)
unfolding row_moved
row_is by i c o old new change next d e f g = rw (g, f, e, d)

pub record Moving (by : ℕ) (body : List ℕ) (start c : Counts) (k : ℕ) : Type 0 where
  pub within : k ≤ length body
  pub left : rows_moved by (drop k body) c ≡ rows_moved by body start

module _ (by : ℕ) (body : List ℕ) (start c : Counts) (k : ℕ) (w : Moving by body start c k) where
  pub moving_next : (e : Counts) → k < length body → e ≡ row_moved by (get_or body k 0 - 1) c → Moving by body start e (k + 1)
  unfolding rows_moved
  moving_next e h q = record { within = omega arith; left = rw q (rw (drop-step body k h) at w.left) }

  pub moving_end : length body ≤ k → c ≡ rows_moved by body start
  unfolding rows_moved
  moving_end h = rw (drop_of_length-le body h) at w.left
