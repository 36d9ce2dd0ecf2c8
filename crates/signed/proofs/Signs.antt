-- From bits to a number and back, by the signs: omega reads no ℤ.
use Rattle.std.proofs.Common.{◌≡◌, ℕ, ◌+◌, ◌^◌, ◌<◌, true, false, T, ltb, List, ◌∷◌, length, get_or, drop, ℤ, pos, negsuc, sym, refl, ◌∙◌, add-one, arith, drop-cons, to_z-of_z, w32, SFits, to_z, of_z, le-ltb}
use mathlib.Core.Bool.{false≢true}
use lib.Signed.{mag, lt_z}
use mir.Syntax.{Width}
use mir.Val.{hbits, bits as size}
use Rattle.signed.specs.Signed.{bits}

-- a number that a call gives, as it is read back from its bits: `given r c.call.ok`
pub given : (r : ℤ) → mag r < 2147483648 → to_z w32 (of_z w32 r) ≡ r
given r h = to_z-of_z {w = w32} (record { sfits = h })

-- a number that a call takes is read so too
pub taken : (z : ℤ) (x : ℕ) → SFits w32 z → x ≡ bits (to_z w32 (of_z w32 z)) → x ≡ bits z
taken z x f e = rw (to_z-of_z f) at e

-- what a call on two numbers gives, read back so
pub read_back_lem : (f : ℤ → ℤ → ℤ) (a b r : ℤ) → SFits w32 a → SFits w32 b → mag r < 2147483648 → r ≡ f (to_z w32 (of_z w32 a)) (to_z w32 (of_z w32 b)) →
    to_z w32 (of_z w32 r) ≡ f a b
read_back_lem f a b r ha hb h e = given r h ∙ (rw (to_z-of_z ha, to_z-of_z hb) at e)

-- a number that a test found below 0, or not, at any width: -1 less it, and itself, as unsigned
pub record Under (w : Width) (z : ℤ) : Type 0 where
  pub n : ℕ
  pub is : z ≡ negsuc n
  pub small : n < 2 ^ hbits w

pub record Over (w : Width) (z : ℤ) : Type 0 where
  pub n : ℕ
  pub is : z ≡ pos n
  pub small : n < 2 ^ hbits w

module _ (w : Width) (room : T (ltb (hbits w) (size w))) (z : ℤ) (f : SFits w z) where
  pub under : lt_z (to_z w (of_z w z)) (pos 0) ≡ true → Under w z
  under t = go z f (rw (to_z-of_z f) at t)
    where
      go : (z : ℤ) → SFits w z → lt_z z (pos 0) ≡ true → Under w z
      go (pos n) f t = absurd (false≢true (sym (le-ltb n 0 (omega arith)) ∙ t))
      go (negsuc n) f t = record { n = n; is = refl; small = f.sfits }

  pub over : lt_z (to_z w (of_z w z)) (pos 0) ≡ false → Over w z
  over t = go z f (rw (to_z-of_z f) at t)
    where
      go : (z : ℤ) → SFits w z → lt_z z (pos 0) ≡ false → Over w z
      go (pos n) f t = record { n = n; is = refl; small = f.sfits }
      go (negsuc n) f t = absurd (false≢true (sym t))

-- what is left of a list of numbers from a place on
pub from_place : (l : List ℤ) (k : ℕ) → k < length l → drop k l ≡ get_or l k (pos 0) ∷ drop (k + 1) l
from_place l k h = rw add-one (drop-cons l k (pos 0) h)
