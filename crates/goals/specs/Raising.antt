-- For the longest duty: a row's least cost by its columns, and the table of present costs.
use Rattle.std.specs.Prelude.{List, ℕ, ◌-◌, get_or, eqb}
use Rattle.node.specs.Lists.{keep, least, table}

-- the least cost of the free ones of some columns, 0 where none is free
abbrev pub least_in : List ℕ → List ℕ → List ℕ → ℕ
least_in cost column js = least (λ j. get_or cost j 0) (keep (λ j. eqb (get_or column j 0) 1) js)

-- a table of costs less a bound
abbrev pub less_bound : ℕ → List ℕ → List ℕ
less_bound b costs = table 256 (λ j. get_or costs j 0 - b)
