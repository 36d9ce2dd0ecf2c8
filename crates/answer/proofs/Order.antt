-- A cost less an amount, in 64 bits; and costs less the same amount are in the order of the costs.
use mathlib.Core.Path.{◌≡◌, refl}
use mathlib.Core.Bool.{Bool, true, false, cond}
use Prim.Native.Nat.{ℕ, zero, suc, ◌+◌, ◌-◌, ◌≤◌, ◌<◌}
use native.Mathlib.Nat.{add-zero}
use native.Mathlib.Omega.{arith}
use borrow.Author.Tests.{ltb-true, ltb-false}
use lib.Dec.{T, ltb, le→leb}
use lib.IntN.{ℤ, pos, negsuc, ◌-ℤ◌}
use lib.Signed.{mag, le_z, ◌≤ℤ◌}
use mir.Syntax.{w32, w64}
use mir.Val.{Fits, SFits, to_z, of_z}
use mir.Facts.{to_z-of_z, to_z_pos}
use Rattle.answer.specs.Answer.{lowered}

pub lowered-order : (added t u : ℕ) → t ≤ u → lowered added t ≤ℤ lowered added u
lowered-order added t u h = record { le = go added }
  where
    either : (k : ℕ) (a b : Bool) → ltb t k ≡ a → ltb u k ≡ b
        → T (le_z (cond a (negsuc (k - suc t)) (pos (t - k))) (cond b (negsuc (k - suc u)) (pos (u - k))))
    either k true true e f = let x : t < k = ltb-true t k e in let y : u < k = ltb-true u k f in le→leb (k - suc u) (k - suc t) (omega arith)
    either k true false e f = tt
    either k false true e f = absurd (omega (arith, ltb-false t k e, ltb-true u k f))
    either k false false e f = let x : k ≤ t = ltb-false t k e in let y : k ≤ u = ltb-false u k f in le→leb (t - k) (u - k) (omega arith)

    go : (k : ℕ) → T (le_z (pos t -ℤ pos k) (pos u -ℤ pos k))
    go zero = rw (add-zero t, add-zero u) (le→leb t u h)
    go (suc k) = either (suc k) (ltb t (suc k)) (ltb u (suc k)) refl refl

-- a difference is no larger than the sum
mag_either : (t : Bool) (a b : ℕ) → mag (cond t (negsuc (b - suc a)) (pos (a - b))) ≤ a + b
mag_either true a b = omega arith
mag_either false a b = omega arith

mag_less : (a b : ℕ) → mag (pos a -ℤ pos b) ≤ a + b
mag_less a zero = omega arith
mag_less a (suc b) = mag_either (ltb a (suc b)) a (suc b)

module _ (c added : ℕ) (f : Fits w32 c) (g : Fits w32 added) where
  is : to_z w64 c -ℤ to_z w64 added ≡ lowered added c
  is = rw (to_z_pos w64 {n = c} (omega (arith, f.fits)), to_z_pos w64 {n = added} (omega (arith, g.fits)))

  fits : SFits w64 (lowered added c)
  fits = record { sfits = omega (arith, mag_less c added, f.fits, g.fits) }

  pub lowered-fits : SFits w64 (to_z w64 c -ℤ to_z w64 added)
  lowered-fits = rw is fits

  pub lowered_is : to_z w64 (of_z w64 (to_z w64 c -ℤ to_z w64 added)) ≡ lowered added c
  lowered_is = rw is (to_z-of_z {w = w64} fits)

-- a number that a call gives, as it is read back from its bits
pub given : (r : ℤ) → mag r < 9223372036854775808 → to_z w64 (of_z w64 r) ≡ r
given r h = to_z-of_z {w = w64} (record { sfits = h })
