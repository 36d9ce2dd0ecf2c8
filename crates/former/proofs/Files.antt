-- A file that does not begin with SPP2: its tests are those of before, and where they pass so are its numbers.
use mathlib.Core.Path.{◌≡◌, refl, sym, ◌∙◌}
use mathlib.Core.Bool.{Bool, true, false, and-false, or-false}
use mathlib.Core.List.{List, [], ◌∷◌, map}
use Prim.Native.Nat.{ℕ, ◌+◌, ◌≤◌, ◌<◌}
use native.Mathlib.Nat.{add-zero}
use native.Mathlib.Omega.{arith}
use borrow.Author.Tests.{ltb-true, ltb-false, leb-true, lt-ltb, lt-leb}
use lib.Dec.{ltb, leb}
use lib.IntN.{pos}
use lib.ListN.{length, take}
use Rattle.endian.specs.Bytes.{same}
use Rattle.endian.proofs.Round.{same_true}
use Rattle.refusals.specs.Refusals.{Fault, fine, fault, ask, ◌then◌}
use Rattle.refusals.proofs.Laws.{both, asked, stops_at, goes_on, passes, fails}
use Rattle.signed.specs.Signed.{signed}
use Rattle.node.proofs.Members.{and_both}
use Rattle.dutyfile.specs.declared.Edition.TheVariants.{Spp1}
use Rattle.dutyfile.specs.declared.Entry.{Entry}
use Rattle.dutyfile.specs.File.{magic, edition_in, rows_in, columns_in, entries, cost_of, size_of, parse, shift, raised, raised_all, added, instance}
use Rattle.dutyfile.specs.Faults.{within, is_cost, column_fault, entry_fault, entries_fault, header_fault, contents_fault, end_fault, rows_fault, file_fault, spp1_fault}
use Rattle.dutyfile.proofs.Facts.{entry-fine, column-fine, file-fine}
use Rattle.former.specs.File.{NotSpp2, former_magic, former_cost_of, former_parse, former_instance}
use Rattle.former.specs.Answers.{signed_lists}
use Rattle.former.specs.Faults.{former_column_fault, former_entry_fault, former_entries_fault, former_header_fault, former_contents_fault, former_end_fault, former_rows_fault, former_file_fault}

-- 32 bits as a price: below 2^31 the same number, and else below 0, which SPP1 refuses as it refused numbers above 1,000,000
pub low_bits : (x : ℕ) → x < 2147483648 → signed x ≡ pos x
low_bits x h = rw (lt-ltb x 2147483648 h)

pub former_cost : (x : ℕ) → is_cost Spp1 (signed x) ≡ within 1 1000000 x
former_cost x = go (ltb x 2147483648) refl
  where
    go : (t : Bool) → ltb x 2147483648 ≡ t → is_cost Spp1 (signed x) ≡ within 1 1000000 x
    go true e = rw (low_bits x (ltb-true x 2147483648 e))
    go false e = rw (e, lt-leb x 1000000 (omega (arith, ltb-false x 2147483648 e)), and-false (leb 1 x))

-- so an accepted price is the same number
pub former_price : (x : ℕ) → is_cost Spp1 (signed x) ≡ true → signed x ≡ pos x
former_price x e =
    let h : x ≤ 1000000 = leb-true x 1000000 (and_both {a = leb 1 x} {b = leb x 1000000} (sym (former_cost x) ∙ e)).1 in
    low_bits x (omega arith)

-- the tests of the contents
former_entry : (m n t : ℕ) (e : Entry) → entry_fault Spp1 m n t e ≡ former_entry_fault m n t e
unfolding entry_fault former_entry_fault column_fault former_column_fault
former_entry m n t e = rw (former_cost e.cost)

former_entries : (m n t : ℕ) (es : List Entry) → entries_fault Spp1 m n t es ≡ former_entries_fault m n t es
unfolding entries_fault former_entries_fault
former_entries m n t [] = refl
former_entries m n t (e ∷ es) = rw (former_entry m n t e, former_entries m n (t + e.size) es)

-- the costs of contents that pass
first-is : (m n t : ℕ) (e : Entry) (es : List Entry) → entries_fault Spp1 m n t (e ∷ es) ≡ fine → signed e.cost ≡ pos e.cost
first-is m n t e es h = former_price e.cost (column-fine Spp1 m t (cost_of e) e.size (entry-fine Spp1 m n t e es h).column).cost

costs_are : (m n t : ℕ) (es : List Entry) → entries_fault Spp1 m n t es ≡ fine → map cost_of es ≡ map pos (map former_cost_of es)
costs_are m n t [] h = refl
costs_are m n t (e ∷ es) h = let f = entry-fine Spp1 m n t e es h in rw (first-is m n t e es h, costs_are m n (t + e.size) es f.rest)

raised_are : (m n t : ℕ) (es : List Entry) → entries_fault Spp1 m n t es ≡ fine → raised_all Spp1 (map cost_of es) (map size_of es) ≡ map former_cost_of es
unfolding raised_all raised shift
raised_are m n t [] h = refl
raised_are m n t (e ∷ es) h = let f = entry-fine Spp1 m n t e es h in rw (first-is m n t e es h, raised_are m n (t + e.size) es f.rest, add-zero e.cost)

-- a file that begins with SPP1 does not begin with SPP2
spp1_other : (s : List ℕ) → same (take 4 s) former_magic ≡ true → NotSpp2 s
unfolding same
spp1_other s e = rw (same_true (take 4 s) former_magic e)

module _ (s : List ℕ) (other : NotSpp2 s) where
  pub former_edition : edition_in s ≡ Spp1
  unfolding edition_in
  former_edition = rw other

  -- the tests of a file
  pub former_fault : file_fault s ≡ former_file_fault s
  unfolding file_fault former_file_fault header_fault former_header_fault contents_fault former_contents_fault end_fault former_end_fault rows_fault former_rows_fault parse former_parse
  former_fault = rw (other, or-false (same (take 4 s) (magic Spp1)), former_edition, former_entries (rows_in s) (columns_in s) 0 (entries s))

  -- nothing is added to the costs of a search
  pub former_added : added s ≡ 0
  unfolding shift
  former_added = rw former_edition

  module _ (ok : file_fault s ≡ fine) where
    passing : entries_fault Spp1 (rows_in s) (columns_in s) 0 (entries s) ≡ fine
    passing = rw former_edition at (file-fine s ok).walked.contents

    -- the costs of an accepted file
    pub former_costs : (parse s).costs ≡ map pos (former_parse s).costs
    unfolding parse former_parse
    former_costs = costs_are (rows_in s) (columns_in s) 0 (entries s) passing

    pub former_lists_lem : parse s ≡ signed_lists (former_parse s)
    unfolding parse former_parse
    former_lists_lem = rw (former_edition, costs_are (rows_in s) (columns_in s) 0 (entries s) passing)

    -- what a search is given
    pub former_instance_lem : instance (parse s) ≡ former_instance (former_parse s)
    unfolding instance former_instance parse former_parse
    former_instance_lem = rw (former_edition, raised_are (rows_in s) (columns_in s) 0 (entries s) passing)

-- so it is for each file that was accepted before
pub former_accepted : (s : List ℕ) → former_file_fault s ≡ fine → NotSpp2 s
unfolding former_file_fault former_header_fault
former_accepted s e = spp1_other s (asked _ 1 (both _ _ (both _ _ (both _ _ e).0).1).0)

-- the tests of the calls that take SPP1 alone: for every file those of before
unmarked : (b : Bool) (f g h : Fault) → (((ask b 1 then fault 1 then f) then g) then h) ≡ fault 1
unfolding ask ◌then◌
unmarked true f g h = refl
unmarked false f g h = refl

former_unmarked : (s : List ℕ) (more : Fault) → same (take 4 s) former_magic ≡ false → (former_file_fault s then more) ≡ fault 1
unfolding former_file_fault former_header_fault
former_unmarked s more e = rw (fails 1 e) (unmarked (leb 8 (length s)) _ _ more)

module _ (s : List ℕ) (more : Fault) where
  abbrev pub spp1_tests : Fault
  spp1_tests = spp1_fault s then file_fault s then more

  pub former_spp1_fault : spp1_tests ≡ (former_file_fault s then more)
  unfolding spp1_fault
  former_spp1_fault = go (same (take 4 s) former_magic) refl
    where
      go : (b : Bool) → same (take 4 s) former_magic ≡ b → spp1_tests ≡ (former_file_fault s then more)
      go true e = goes_on _ (passes 1 e) ∙ rw (former_fault s (spp1_other s e))
      go false e = stops_at 1 _ (fails 1 e) ∙ sym (former_unmarked s more e)

  -- where they pass
  module _ (e : spp1_tests ≡ fine) where
    pub tested_other : NotSpp2 s
    tested_other = former_accepted s (both _ _ (sym former_spp1_fault ∙ e)).0

    pub tested_file : file_fault s ≡ fine
    tested_file = (both _ _ (both _ _ e).1).0

    pub tested_instance : instance (parse s) ≡ former_instance (former_parse s)
    tested_instance = former_instance_lem s tested_other tested_file
