-- The places into which a file is read.
use Rattle.std.specs.Prelude.{◌≡◌, List, ℕ, ℤ, length}

-- room for any accepted file
pub record Places (costs : List ℤ) (lengths numbers : List ℕ) : Type 0 where
  pub costs_long : length costs ≡ 256
  pub lengths_long : length lengths ≡ 256
  pub numbers_long : length numbers ≡ 4096
