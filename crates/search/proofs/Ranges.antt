-- The comparison by which a range contains a number is that of the definitions.
use mathlib.Core.Path.{◌≡◌, ◌∙◌}
use mathlib.Core.Bool.{Bool, ◌&&◌}
use Prim.Native.Nat.{ℕ}
use native.Mathlib.Omega.{arith}
use lib.Dec.{leb}
use Rattle.std.specs.Ordering.{is_le, nat_cmp}
use Rattle.std.proofs.lemmas.Bool.Decides.{nat_tests}

le_is : (a b : ℕ) → is_le (nat_cmp a b) ≡ leb a b
le_is a b = grind (arith, nat_tests)

pub inside : (r : Bool) (a b x : ℕ) → r ≡ (is_le (nat_cmp a x) && is_le (nat_cmp x b)) → r ≡ (leb a x && leb x b)
inside r a b x e = e ∙ rw (le_is a x, le_is x b)
