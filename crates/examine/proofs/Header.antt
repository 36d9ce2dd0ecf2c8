-- The ways out of the header's tests.
use mathlib.Core.Path.{◌≡◌, sym, ◌∙◌}
use mathlib.Core.Bool.{true, false, ◌||◌}
use mathlib.Core.List.{List}
use Prim.Native.Nat.{ℕ, ◌≤◌, ◌<◌}
use lib.ListN.{length, take}
use borrow.Author.Tests.{le-leb, lt-leb}
use Rattle.endian.specs.Bytes.{same}
use Rattle.refusals.specs.Refusals.{fine, fault}
use Rattle.refusals.proofs.Laws.{stops_at, goes_on, passes, fails}
use Rattle.dutyfile.specs.declared.Edition.TheVariants.{Spp1, Spp2}
use Rattle.dutyfile.specs.File.{magic, rows_in, columns_in, bodies_at}
use Rattle.dutyfile.specs.Faults.{counts_fault, header_fault}

module _ (s : List ℕ) where
  pub header-short : length s < 8 → fault 1 ≡ header_fault s
  unfolding header_fault
  header-short h = sym (stops_at 1 _ (fails 1 (lt-leb _ _ h)))

  module _ (long : 8 ≤ length s) where
    pub header_other : (same (take 4 s) (magic Spp1) || same (take 4 s) (magic Spp2)) ≡ false → fault 1 ≡ header_fault s
    unfolding header_fault
    header_other e = sym (goes_on _ (passes 1 (le-leb _ _ long)) ∙ stops_at 1 _ (fails 1 e))

    module _ (marked : (same (take 4 s) (magic Spp1) || same (take 4 s) (magic Spp2)) ≡ true) where
      pub header-counts : (k : ℕ) → counts_fault (rows_in s) (columns_in s) ≡ fault k → fault k ≡ header_fault s
      unfolding header_fault
      header-counts k e = sym (goes_on _ (passes 1 (le-leb _ _ long)) ∙ goes_on _ (passes 1 marked) ∙ stops_at k _ e)

      module _ (counted : counts_fault (rows_in s) (columns_in s) ≡ fine) where
        pub header-cut : length s < bodies_at (columns_in s) → fault 3 ≡ header_fault s
        unfolding header_fault
        header-cut h = sym (goes_on _ (passes 1 (le-leb _ _ long)) ∙ goes_on _ (passes 1 marked) ∙ goes_on _ counted ∙ fails 3 (lt-leb _ _ h))

        pub header-whole : bodies_at (columns_in s) ≤ length s → fine ≡ header_fault s
        unfolding header_fault
        header-whole h = sym (goes_on _ (passes 1 (le-leb _ _ long)) ∙ goes_on _ (passes 1 marked) ∙ goes_on _ counted ∙ passes 3 (le-leb _ _ h))
