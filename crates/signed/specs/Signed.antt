-- Signed numbers of 32 bits in two's complement.
use Rattle.std.specs.Prelude.{ℕ, ◌+◌, ◌-◌, ◌%◌, ℤ}
use Rattle.std.specs.Int.{w32}
use Rattle.std.proofs.Common.{to_z, of_z}

-- the number that 32 bits stand for: x below 2^31, else x - 2^32; and the bits of a number
abbrev pub signed : ℕ → ℤ
signed x = to_z w32 x

abbrev pub bits : ℤ → ℕ
bits z = of_z w32 z

-- the sum and the difference at 32 bits, wrapping
unfoldable pub sum32 : ℤ → ℤ → ℤ
sum32 a b = signed ((bits a + bits b) % 4294967296)

unfoldable pub difference32 : ℤ → ℤ → ℤ
difference32 a b = signed ((bits a + (4294967296 - bits b)) % 4294967296)
