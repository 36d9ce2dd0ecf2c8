-- The lists of a file from which those of its trials are made.
use Rattle.std.specs.Prelude.{◌≡◌, List, ℕ, ◌+◌, ◌-◌, ◌≤◌, ℤ, length, take}
use Rattle.dutyfile.specs.declared.Shape.{Shape}
use Rattle.dutyfile.specs.File.{Lists, lists, sum}
use Rattle.trials.proofs.Extended.{Extendable}

-- the lists that the first places hold
abbrev pub held : Shape → List ℤ → List ℕ → List ℕ → Lists
held found costs lengths numbers =
    lists found.edition found.rows (take found.columns costs) (take found.columns lengths) (take found.entries numbers)

-- room for the columns of trial k
pub record Places (found : Shape) (k : ℕ) : Type 0 where
  pub low : k ≤ found.rows
  pub tall : found.rows ≤ 64
  pub wide : found.columns + (found.rows - k) ≤ 256
  pub full : found.entries + (found.rows - k) ≤ 4096

-- lists of an accepted file with room for those of every trial, and a node limit in range
pub record Ready (found : Shape) (costs : List ℤ) (lengths numbers : List ℕ) (limit : ℕ) : Type 0 where
  pub lists : Extendable (held found costs lengths numbers)
  pub columns_is : length (take found.columns costs) ≡ found.columns
  pub entries_is : sum (take found.columns lengths) ≡ found.entries
  pub one : 1 ≤ limit
  pub limited : limit ≤ 1000000
