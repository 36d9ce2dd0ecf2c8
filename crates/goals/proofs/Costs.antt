-- The table of present costs, place by place.
use mathlib.Core.Path.{◌≡◌, refl, ◌∙◌}
use mathlib.Core.Bool.{Bool, true, false}
use mathlib.Core.List.{List}
use Prim.Native.Nat.{ℕ, ◌-◌, ◌≤◌, ◌<◌}
use native.Mathlib.Omega.{arith}
use lib.ListN.{length, get_or, length-map, get_or-eq_default}
use lib.Dec.{ltb}
use borrow.Author.Tests.{ltb-true, ltb-false}
use Rattle.node.specs.Lists.{upto, table}
use Rattle.node.proofs.Members.{at_table, length_from}
use Rattle.node.proofs.Loops.{table_ext}
use Rattle.goals.specs.Raising.{less_bound}

-- a table less a bound, of which the places below j are filled
pub record Netting (costs : List ℕ) (b : ℕ) (net : List ℕ) (j : ℕ) : Type 0 where
  pub long : length net ≡ 256
  pub within : j ≤ 256
  pub filled : (k : ℕ) → k < j → get_or net k 0 ≡ get_or costs k 0 - b

pub netting_end : (costs : List ℕ) (b : ℕ) (net : List ℕ) (j : ℕ) → Netting costs b net j → 256 ≤ j → net ≡ less_bound b costs
netting_end costs b net j w h =
    table_ext 256 (λ k. get_or costs k 0 - b) net w.long (λ k l. w.filled k (omega (arith, w.within)))

-- an entry of the table; beyond the tables both are 0
pub less-at : (b : ℕ) (costs : List ℕ) → length costs ≡ 256 → (j : ℕ) → get_or (less_bound b costs) j 0 ≡ get_or costs j 0 - b
less-at b costs n j = go (ltb j 256) refl
  where
    f : ℕ → ℕ
    f k = get_or costs k 0 - b

    go : (t : Bool) → ltb j 256 ≡ t → get_or (table 256 f) j 0 ≡ f j
    go true e = at_table 256 f j (ltb-true j 256 e)
    go false e =
        let l : 256 ≤ j = ltb-false j 256 e in
        let z : get_or costs j 0 ≡ 0 = get_or-eq_default costs 0 (omega (arith, n)) in
        get_or-eq_default (table 256 f) 0 (omega (arith, length-map (upto 256) f, length_from 256 0)) ∙ omega (arith, z)
