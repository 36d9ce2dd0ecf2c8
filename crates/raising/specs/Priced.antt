-- Columns that pass their tests.
use Rattle.std.specs.Prelude.{◌≡◌, ℕ, ◌<◌, ◌≤◌, true, List, length, ℤ, pos, slice_index, slice_index_or}
use Rattle.dutyfile.specs.declared.Edition.{Edition}
use Rattle.dutyfile.specs.Faults.{is_cost}

-- a cost and a number of rows
pub record Priced (ed : Edition) (c : ℤ) (l : ℕ) : Type 0 where
  pub cost : is_cost ed c ≡ true
  pub least : 1 ≤ l
  pub most : l ≤ 64

-- those of all columns
pub record AllPriced (ed : Edition) (cs : List ℤ) (ls : List ℕ) : Type 0 where
  pub wide : length cs ≤ 256
  pub same : length ls ≡ length cs
  pub each : (j : ℕ) → j < length cs → Priced ed (slice_index_or cs j (pos 0)) (slice_index ls j)
