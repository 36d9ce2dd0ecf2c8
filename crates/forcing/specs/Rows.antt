-- What rows ask, as their columns and then the rows are read one by one.
use Rattle.std.specs.Prelude.{List, [], ◌∷◌, ℕ, get_or, eqb}
use Rattle.node.specs.Lists.{keep}
use Rattle.rules.specs.declared.Asked.{Asked}
use Rattle.rules.specs.declared.Asked.TheVariants.{Dead, Take, Settled}

-- the free ones of some columns
abbrev pub free_in : List ℕ → List ℕ → List ℕ
free_in column js = keep (λ j. eqb (get_or column j 0) 1) js

-- what a row asks, by its free columns
unfoldable pub asks_by : List ℕ → Asked
asks_by [] = Dead
asks_by (j ∷ []) = Take j
asks_by (j ∷ (k ∷ ks)) = Settled

-- what some rows ask, and then one more row
unfoldable pub sooner : Asked → Asked → Asked
sooner Dead b = Dead
sooner (Take j) Dead = Dead
sooner (Take j) (Take k) = Take j
sooner (Take j) Settled = Take j
sooner Settled b = b
