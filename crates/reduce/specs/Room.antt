-- What the lent lists must have room for.
use Rattle.std.specs.Prelude.{List, ℕ, ◌≤◌, ◌<◌, length, get_or}
use Rattle.lowering.specs.declared.Reduction.{Reduction}

-- the first n costs of a list are below 2^31
abbrev pub Below : List ℕ → ℕ → Type 0
Below costs n = (j : ℕ) → j < n → get_or costs j 0 < 2147483648

-- a list of c signed numbers has room for costs
pub record CostRoom (costs : List ℕ) (c : ℕ) : Type 0 where
  pub places : length costs ≤ c
  pub below : Below costs (length costs)

-- lists of c and o places have room for its first costs and its rows used
pub record Room (r : Reduction) (columns c o : ℕ) : Type 0 where
  pub wide : columns ≤ 256
  pub few : r.count ≤ 64
  pub reduced : columns ≤ c
  pub order : r.count ≤ o
  pub below : Below r.node.cost columns
