-- A raised cost is the sum of the bits of a cost and the shift, wrapping.
use Rattle.std.proofs.Common.{◌≡◌, ℕ, suc, ◌+◌, ◌*◌, ◌%◌, ℤ, pos, negsuc, arith, le-ltb, w32, of_z}
use mathlib.Core.Bool.{false≢true}
use Rattle.dutyfile.specs.declared.Edition.{Edition}
use Rattle.dutyfile.specs.declared.Edition.TheVariants.{Spp1, Spp2}
use Rattle.dutyfile.specs.File.{shift, raised}
use Rattle.dutyfile.proofs.Costs.{above, beneath}
use Rattle.raising.specs.Priced.{Priced}

pub raised-bits : (ed : Edition) (c : ℤ) (l x y r : ℕ) → Priced ed c l → x ≡ of_z w32 c → y ≡ shift ed l → r ≡ (x + y) % 4294967296 → r ≡ raised ed c l
unfolding raised shift
raised-bits Spp1 (pos n) l x y r p e s f = omega (arith, above Spp1 n p.cost)
raised-bits Spp2 (pos n) l x y r p e s f = omega (arith, above Spp2 n p.cost, p.most)
raised-bits Spp1 (negsuc n) l x y r p e s f = absurd (false≢true p.cost)
raised-bits Spp2 (negsuc n) l x y r p e s f =
    rw (le-ltb (1000000 * l) (suc n) (omega (arith, beneath n p.cost, p.least)))
    (omega (arith, beneath n p.cost, p.most, p.least))
