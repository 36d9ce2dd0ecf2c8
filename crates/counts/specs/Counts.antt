-- How often each row is covered, and how many rows are not covered exactly once, as counts change by 1. All numbers wrap at 32 bits.
use Rattle.std.specs.Prelude.{ℕ, ◌+◌, ◌-◌, ◌%◌, cond, List, [], ◌∷◌, ◌==◌, slice_index_or, slice_set}

pub record Counts : Type 0 where
  pub covered : List ℕ  -- for each row how often it is covered
  pub off : ℕ  -- how many rows are not covered exactly once

abbrev pub counts_of : List ℕ → ℕ → Counts
counts_of c o = record { covered = c; off = o }

-- the sum at 32 bits, wrapping
abbrev pub plus : ℕ → ℕ → ℕ
plus a b = (a + b) % 4294967296

-- what is added for one more and for one less
abbrev pub more : ℕ
more = 1

abbrev pub less : ℕ
less = 4294967295

-- as a row's count goes from old to new, one more row is off where it leaves 1, and one less where it reaches 1
unfoldable pub off_by : ℕ → ℕ → ℕ
off_by old new = cond (old == 1) more (cond (new == 1) less 0)

-- the count of row i changed
unfoldable pub row_moved : ℕ → ℕ → Counts → Counts
row_moved by i c =
    let old : ℕ = slice_index_or c.covered i 0 in
    let new : ℕ = plus old by in
    record { covered = slice_set c.covered i new; off = plus c.off (off_by old new) }

-- the counts of a body's rows changed, which are numbered from 1
unfoldable pub rows_moved : ℕ → List ℕ → Counts → Counts
rows_moved by [] c = c
rows_moved by (r ∷ rs) c = rows_moved by rs (row_moved by (r - 1) c)
