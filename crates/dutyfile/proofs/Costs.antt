-- What the range of a cost says of each sign.
use mathlib.Core.Path.{◌≡◌, refl, sym, ap}
use mathlib.Core.Bool.{true, false, false≢true}
use mathlib.Core.List.{List, [], ◌∷◌}
use Prim.Native.Nat.{ℕ, zero, suc, ◌<◌, ◌*◌, ◌≤◌}
use native.Mathlib.Omega.{arith}
use borrow.Author.Tests.{leb-true, le-ltb, le-leb, lt-leb, ltb-true, ltb-false}
use lib.Dec.{leb}
use lib.IntN.{ℤ, pos, negsuc, ◌+ℤ◌}
use lib.ListN.{length, get_or}
use lib.Signed.{mag, lt_z, le_z}
use mir.Syntax.{w32}
use mir.Val.{SFits, to_z, of_z}
use mir.Facts.{to_z-of_z}
use Rattle.signed.proofs.Signs.{given}
use Rattle.node.proofs.Members.{and_both}
use Rattle.dutyfile.specs.declared.Edition.{Edition}
use Rattle.dutyfile.specs.declared.Edition.TheVariants.{Spp1, Spp2}
use Rattle.dutyfile.specs.File.{shift, raised, raised_all}
use Rattle.dutyfile.specs.Faults.{least_cost, is_cost}

pub above : (ed : Edition) (n : ℕ) → is_cost ed (pos n) ≡ true → n ≤ 1000000
above ed n e = leb-true n 1000000 (and_both {a = le_z (least_cost ed) (pos n)} {b = leb n 1000000} e).1

pub beneath : (n : ℕ) → is_cost Spp2 (negsuc n) ≡ true → n ≤ 999999
beneath n e = leb-true n 999999 (and_both {a = leb n 999999} {b = true} e).0

pub cost-small : (ed : Edition) (c : ℤ) → is_cost ed c ≡ true → mag c ≤ 1000000
cost-small ed (pos n) e = above ed n e
cost-small Spp1 (negsuc n) e = absurd (false≢true e)
cost-small Spp2 (negsuc n) e = omega (arith, beneath n e)

pub cost-fits : (ed : Edition) (c : ℤ) → is_cost ed c ≡ true → SFits w32 c
cost-fits ed c e = record { sfits = omega (arith, cost-small ed c e) }

-- a raised cost is the cost and the shift, and not below 0
pub raised_is : (ed : Edition) (c : ℤ) (l : ℕ) → is_cost ed c ≡ true → 1 ≤ l → pos (raised ed c l) ≡ c +ℤ pos (shift ed l)
unfolding raised shift
raised_is Spp1 (pos n) l e h = refl
raised_is Spp2 (pos n) l e h = refl
raised_is Spp1 (negsuc n) l e h = absurd (false≢true e)
raised_is Spp2 (negsuc n) l e h = rw (le-ltb (1000000 * l) (suc n) (omega (arith, beneath n e)))

-- of at most 64 rows, it is at most 65,000,000
pub raised-most : (ed : Edition) (c : ℤ) (l : ℕ) → is_cost ed c ≡ true → 1 ≤ l → l ≤ 64 → raised ed c l ≤ 65000000
unfolding raised shift
raised-most Spp1 (pos n) l e g h = omega (arith, above Spp1 n e)
raised-most Spp2 (pos n) l e g h = omega (arith, above Spp2 n e)
raised-most Spp1 (negsuc n) l e g h = absurd (false≢true e)
raised-most Spp2 (negsuc n) l e g h = rw (le-ltb (1000000 * l) (suc n) (omega (arith, beneath n e))) (omega arith)

-- the raised costs of a list of columns
pub raised_long : (ed : Edition) (cs : List ℤ) (ls : List ℕ) → length ls ≡ length cs → length (raised_all ed cs ls) ≡ length cs
unfolding raised_all
raised_long ed [] ls h = refl
raised_long ed (c ∷ cs) [] h = absurd (omega arith)
raised_long ed (c ∷ cs) (l ∷ ls) h = ap suc (raised_long ed cs ls (omega arith))

pub raised_at : (ed : Edition) (cs : List ℤ) (ls : List ℕ) (j : ℕ) → j < length cs → length ls ≡ length cs
    → get_or (raised_all ed cs ls) j 0 ≡ raised ed (get_or cs j (pos 0)) (get_or ls j 0)
unfolding raised_all
raised_at ed [] ls j l h = absurd (omega arith)
raised_at ed (c ∷ cs) [] j l h = absurd (omega arith)
raised_at ed (c ∷ cs) (k ∷ ls) zero l h = refl
raised_at ed (c ∷ cs) (k ∷ ls) (suc j) l h = raised_at ed cs ls j (omega arith) (omega arith)

-- a test and its opposite
lt_le : (a b : ℤ) → lt_z a b ≡ true → le_z b a ≡ false
lt_le (pos a) (pos b) t = lt-leb b a (ltb-true a b t)
lt_le (pos a) (negsuc b) t = absurd (false≢true t)
lt_le (negsuc a) (pos b) t = refl
lt_le (negsuc a) (negsuc b) t = lt-leb a b (ltb-true b a t)

ge_le : (a b : ℤ) → lt_z a b ≡ false → le_z b a ≡ true
ge_le (pos a) (pos b) t = le-leb b a (ltb-false a b t)
ge_le (pos a) (negsuc b) t = refl
ge_le (negsuc a) (pos b) t = absurd (false≢true (sym t))
ge_le (negsuc a) (negsuc b) t = le-leb a b (ltb-false b a t)

-- the test of a cost, against the least one as a call gives it
module _ (ed : Edition) (c : ℤ) (f : SFits w32 c) (r : ℤ) (ok : mag r < 2147483648) (is : r ≡ least_cost ed) where
  pub too_low : lt_z (to_z w32 (of_z w32 c)) (to_z w32 (of_z w32 r)) ≡ true → false ≡ is_cost ed c
  too_low t = rw (lt_le c (least_cost ed) (rw (to_z-of_z f, given r ok, is) at t))

  pub low-enough : lt_z (to_z w32 (of_z w32 c)) (to_z w32 (of_z w32 r)) ≡ false → le_z (to_z w32 (of_z w32 c)) (pos 1000000) ≡ is_cost ed c
  low-enough t = rw (to_z-of_z f, ge_le c (least_cost ed) (rw (to_z-of_z f, given r ok, is) at t))
