-- A wrapping sum is the sum where that fits, and a wrapping difference takes it back.
use Rattle.std.proofs.Common.{◌≡◌, sym, ◌-ℤ◌, ℕ, suc, ◌+◌, ◌-◌, ◌%◌, ◌≤◌, Bool, true, false, cond, ltb, ℤ, pos, negsuc, ◌+ℤ◌, ap, ◌∙◌, arith, w32, SFits}
use Rattle.std.specs.Int.{int_wrap}
use Rattle.std.proofs.lemmas.Int.{wrapping_add_is, wrapping_sub_is, int_wrap_fits, of_z-to_z, ints}
use lib.Signed.{mag}
use Rattle.signed.specs.Signed.{bits, sum32, difference32}

module _ (a b : ℤ) (f : SFits w32 a) (g : SFits w32 b) (h : SFits w32 (a +ℤ b)) where
  pub sum_exact : sum32 a b ≡ a +ℤ b
  unfolding sum32
  sum_exact = wrapping_add_is w32 a b f g ∙ int_wrap_fits w32 (a +ℤ b) h

  pub difference_exact : difference32 (a +ℤ b) b ≡ a
  unfolding difference32
  difference_exact = wrapping_sub_is w32 (a +ℤ b) b h g ∙ ap (int_wrap w32) back ∙ int_wrap_fits w32 a f
    where
      back : (a +ℤ b) -ℤ b ≡ a
      back = omega (arith, ints)

-- the bits of a sum
pub bits-sum : (a b : ℤ) → SFits w32 a → SFits w32 b → SFits w32 (a +ℤ b) → (bits a + bits b) % 4294967296 ≡ bits (a +ℤ b)
unfolding sum32
bits-sum a b f g h = sym (of_z-to_z w32 ((bits a + bits b) % 4294967296) (omega arith)) ∙ ap bits (sum_exact a b f g h)

-- how large a sum is
mag_either : (t : Bool) (a b : ℕ) → mag (cond t (negsuc (b - suc a)) (pos (a - b))) ≤ a + b
mag_either true a b = omega arith
mag_either false a b = omega arith

pub mag-add : (a b : ℤ) → mag (a +ℤ b) ≤ suc (mag a + mag b)
mag-add (pos a) (pos b) = omega arith
mag-add (pos a) (negsuc b) = omega (arith, mag_either (ltb a (suc b)) a (suc b))
mag-add (negsuc a) (pos b) = omega (arith, mag_either (ltb b (suc a)) b (suc a))
mag-add (negsuc a) (negsuc b) = omega arith
