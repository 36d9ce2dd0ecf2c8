-- A row's statistics, as its columns are read one by one.
use Rattle.std.specs.Prelude.{Bool, cond, ◌&&◌, List, ℕ, ◌+◌, ◌≤◌, min, length, get_or, eqb, ltb}
use Rattle.rules.specs.declared.Candidate.{Candidate}
use Rattle.node.specs.Lists.{keep, least}
use Rattle.node.specs.Matrix.{Matrix, span}
use Rattle.node.specs.Stored.{HasColumns}

-- column j is free and at cost 0
abbrev pub zero_in : List ℕ → List ℕ → ℕ → Bool
zero_in cost column j = eqb (get_or column j 0) 1 && eqb (get_or cost j 0) 0

-- what the criteria look at in row i, with js its free columns, f their costs, z how many rows each covers, and c the least cost
unfoldable pub tally_at : (ℕ → ℕ) → (ℕ → ℕ) → List ℕ → ℕ → ℕ → Candidate
tally_at f z js i c =
    let ks : List ℕ = keep (λ j. eqb (f j) c) js in
    record { free = length js; ties = length ks; cost = c; short = least z ks; row = i }

abbrev pub tally : (ℕ → ℕ) → (ℕ → ℕ) → List ℕ → ℕ → Candidate
tally f z js i = tally_at f z js i (least f js)

-- the same with one more free column, of cost c and z rows
unfoldable pub joined : Candidate → ℕ → ℕ → Candidate
joined a c z =
    cond (eqb a.free 0)
    (record { free = 1; ties = 1; cost = c; short = z; row = a.row })
    (cond (ltb c a.cost)
    (record { free = a.free + 1; ties = 1; cost = c; short = z; row = a.row })
    (cond (eqb c a.cost)
    (record { free = a.free + 1; ties = a.ties + 1; cost = a.cost; short = min a.short z; row = a.row })
    (record { free = a.free + 1; ties = a.ties; cost = a.cost; short = a.short; row = a.row })))

-- the statistics of row i, whose columns are given
abbrev pub tally_in : Matrix → List ℕ → List ℕ → List ℕ → ℕ → Candidate
tally_in p cost column row i = tally (λ j. get_or cost j 0) (span p) (keep (λ j. eqb (get_or column j 0) 1) row) i

-- few columns of a kept matrix
pub record Listed (l row : List ℕ) : Type 0 where
  pub has : HasColumns l row
  pub few : length row ≤ 4096
