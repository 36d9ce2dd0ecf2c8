-- What a file begins with: with SPP1 it is of that edition.
use mathlib.Core.Path.{◌≡◌, sym, ◌∙◌}
use mathlib.Core.Bool.{Bool, true, false, not}
use mathlib.Core.List.{List}
use Prim.Native.Nat.{ℕ}
use lib.ListN.{take}
use Rattle.endian.specs.Bytes.{same}
use Rattle.endian.proofs.Round.{same_true}
use borrow.Author.Tests.{not-true, not-false}
use Rattle.refusals.specs.Refusals.{fine, fault}
use Rattle.refusals.proofs.Laws.{asked, passes, fails}
use Rattle.dutyfile.specs.declared.Edition.TheVariants.{Spp1}
use Rattle.dutyfile.specs.File.{magic, edition_in, shift, added}
use Rattle.dutyfile.specs.Faults.{spp1_fault}

pub spp1_edition : (s : List ℕ) → spp1_fault s ≡ fine → edition_in s ≡ Spp1
unfolding spp1_fault edition_in same
spp1_edition s e = rw (same_true (take 4 s) (magic Spp1) (asked _ 1 e))

-- nothing is added then
pub spp1_added : (s : List ℕ) → spp1_fault s ≡ fine → added s ≡ 0
unfolding shift
spp1_added s e = rw (spp1_edition s e)

-- the first test of a call that takes SPP1 alone, as code makes it
module _ (s : List ℕ) (b : Bool) (told : b ≡ same (take 4 s) (magic Spp1)) where
  pub spp1_fails : not b ≡ true → spp1_fault s ≡ fault 1
  unfolding spp1_fault
  spp1_fails h = fails 1 (sym told ∙ not-true b h)

  pub spp1_passes : not b ≡ false → spp1_fault s ≡ fine
  unfolding spp1_fault
  spp1_passes h = passes 1 (sym told ∙ not-false b h)
