-- A free column at cost 0 is found where it stands, or none is left to be seen; a row that has one has the least cost 0.
use mathlib.Core.Path.{◌≡◌, refl, sym}
use mathlib.Core.Bool.{Bool, true, false, cond, ◌||◌, not, false≢true}
use mathlib.Core.List.{List, [], ◌∷◌}
use Prim.Native.Nat.{ℕ}
use native.Mathlib.Omega.{arith}
use lib.ListN.{get_or}
use lib.Dec.{eqb}
use borrow.Author.Tests.{eqb-true}
use Rattle.std.specs.List.{list_any}
use Rattle.node.specs.Lists.{keep, is_empty, member}
use Rattle.node.specs.Matrix.{Matrix}
use Rattle.node.specs.Stored.{row_columns}
use Rattle.node.specs.Node.{is_free, free_of}
use Rattle.rules.specs.Reduce.{least_of}
use Rattle.node.proofs.Members.{and_both, here, kept, member-keep, least_le}
use Rattle.node.proofs.Parts.{free-row}
use Rattle.node.specs.View.{view}
use Rattle.candidates.specs.Row.{zero_in}
use Rattle.candidates.specs.Best.{has_zero}

-- one of some columns passes a test where those that pass are not none
pub any_zero : (t : ℕ → Bool) (js : List ℕ) → list_any t js ≡ not (is_empty (keep t js))
unfolding is_empty keep
any_zero t [] = refl
any_zero t (j ∷ js) = go (t j) (any_zero t js)
  where
    go : (b : Bool) → list_any t js ≡ not (is_empty (keep t js)) → (b || list_any t js) ≡ not (is_empty (cond b (j ∷ keep t js) (keep t js)))
    go true e = refl
    go false e = e

-- the first of the columns that pass a test
some : (ks : List ℕ) → true ≡ not (is_empty ks) → (j : ℕ) × (member j ks ≡ true)
unfolding is_empty
some [] h = absurd (false≢true (sym h))
some (j ∷ ks) h = (j, here j ks)

pub zero-least : (p : Matrix) (cost column row js : List ℕ) (i : ℕ) → js ≡ row_columns p i → true ≡ has_zero cost column js →
    least_of p (view cost column row) i ≡ 0
unfolding least_of
zero-least p cost column row js i e h =
    let s = view cost column row in
    let x = some (keep (zero_in cost column) js) h in
    let j : ℕ = x.0 in
    let z = kept (zero_in cost column) j js x.1 in
    let b = and_both {a = eqb (get_or column j 0) 1} {b = eqb (get_or cost j 0) 0} z.0 in
    let m : member j (free_of p s i) ≡ true = rw (free-row p s i, member-keep (is_free s) j (row_columns p i), b.0, ← e) z.1 in
    omega (arith, least_le (λ k. get_or cost k 0) (free_of p s i) j m, eqb-true (get_or cost j 0) 0 b.1)
