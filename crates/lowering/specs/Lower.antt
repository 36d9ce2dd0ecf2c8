-- One reducing step: the costs of a row's free columns lowered, one column after another.
use Rattle.std.specs.Prelude.{◌≡◌, cond, List, [], ℕ, ◌-◌, ◌≤◌, ◌<◌, length, get_or, set, eqb}
use Rattle.node.specs.Passes.{carry}
use Rattle.rules.proofs.Plans.{FreeIn}
use Rattle.node.specs.Stored.{matrix_in, HasRow}
use Rattle.node.specs.View.{view}

-- an amount off the cost of column j, if it is free, and off those of the free columns of a list
unfoldable pub lower_one : List ℕ → List ℕ → ℕ → List ℕ → ℕ → List ℕ
lower_one column cost a out j = cond (eqb (get_or column j 0) 1) (set out j (get_or cost j 0 - a)) out

abbrev pub lower_at : List ℕ → List ℕ → ℕ → List ℕ → List ℕ → List ℕ
lower_at column cost a js out = carry (lower_one column cost a) out js

-- it is not above any of them
abbrev pub Covered : List ℕ → List ℕ → ℕ → List ℕ → Type 0
Covered column cost a row = (k : ℕ) → k < length row → get_or column (get_or row k 0) 0 ≡ 1 → a ≤ get_or cost (get_or row k 0) 0

-- its numbers rise
abbrev pub Rising : List ℕ → Type 0
Rising row = (a b : ℕ) → a < b → b < length row → get_or row a 0 < get_or row b 0

-- an amount can leave the free columns of row i of a kept matrix
pub record Lowerable (cost column l : List ℕ) (i a : ℕ) : Type 0 where
  pub has : HasRow l i
  pub covered : (j : ℕ) → FreeIn (matrix_in l) (view cost column []) i j → a ≤ get_or cost j 0
  pub wide : length cost ≡ 256
