-- The writer of SPP1 gives the answers of before, where the 32 bits of the former prices are read as signed numbers; and the file of lists is the
-- former one.
use mathlib.Core.Path.{◌≡◌, refl, ◌∙◌}
use mathlib.Core.List.{List, [], ◌∷◌, map}
use Prim.Native.Nat.{ℕ, ◌+◌}
use native.Mathlib.Omega.{arith}
use borrow.Author.Tests.{eqb-true}
use lib.IntN.{pos}
use lib.ListN.{length, length-map}
use Rattle.signed.specs.Signed.{signed}
use Rattle.refusals.specs.Refusals.{Fault, fine, fault, ◌then◌, unless, filled}
use Rattle.refusals.proofs.Laws.{both, asked}
use Rattle.dutyfile.specs.declared.Edition.TheVariants.{Spp1}
use Rattle.dutyfile.specs.File.{Lists, lists, bodies_at, contents, header, render}
use Rattle.dutyfile.specs.Faults.{column_fault, columns_fault, lists_fault, room, writing}
use Rattle.dutyfile.proofs.Facts.{column-fine}
use Rattle.former.specs.File.{FormerLists, former_lists, former_contents, former_header, former_render}
use Rattle.former.specs.Faults.{former_column_fault, former_columns_fault, former_lists_fault}
use Rattle.former.specs.Answers.{signed_lists}
use Rattle.former.specs.Calls.{former_writing}
use Rattle.former.proofs.Files.{former_cost, former_price}

-- the file of lists
contents_are : (at : ℕ) (cs ls : List ℕ) → contents at (map pos cs) ls ≡ former_contents at cs ls
unfolding contents former_contents
contents_are at [] ls = refl
contents_are at (c ∷ cs) [] = refl
contents_are at (c ∷ cs) (l ∷ ls) = rw (contents_are (at + l) cs ls)

pub former_render_lem : (d : FormerLists) → render (signed_lists d) ≡ former_render d
unfolding render former_render header former_header
former_render_lem d = rw (length-map d.costs pos, contents_are (bodies_at (length d.costs)) d.costs d.lengths)

-- the tests of the columns, and their prices where these pass
columns_are : (m t : ℕ) (cs ls : List ℕ) → columns_fault Spp1 m t (map signed cs) ls ≡ former_columns_fault m t cs ls
unfolding columns_fault former_columns_fault column_fault former_column_fault
columns_are m t [] ls = refl
columns_are m t (c ∷ cs) [] = refl
columns_are m t (c ∷ cs) (l ∷ ls) = rw (former_cost c, columns_are m (t + l) cs ls)

prices_are : (m t : ℕ) (cs ls : List ℕ) → length ls ≡ length cs → columns_fault Spp1 m t (map signed cs) ls ≡ fine → map signed cs ≡ map pos cs
unfolding columns_fault
prices_are m t [] ls e h = refl
prices_are m t (c ∷ cs) [] e h = absurd (omega arith)
prices_are m t (c ∷ cs) (l ∷ ls) e h =
    let b = both _ _ h in
    rw (former_price c (column-fine Spp1 m t (signed c) l b.0).cost, prices_are m (t + l) cs ls (omega arith) b.1)

-- two files, the same where the tests before the buffer's pass
module _ (k : ℕ) (new former : List ℕ) where
  outcomes : (f : Fault) → (f ≡ fine → new ≡ former) → unless (f then room (length new) k) (length new) ≡ unless (f then room (length former) k) (length former)
  unfolding ◌then◌ unless
  outcomes fine e = rw (e refl)
  outcomes (fault n) e = refl

  buffers : (old : List ℕ) (f : Fault) → (f ≡ fine → new ≡ former) →
      filled (unless (f then room (length new) k) (length new)) new old ≡ filled (unless (f then room (length former) k) (length former)) former old
  unfolding ◌then◌ unless filled
  buffers old fine e = rw (e refl)
  buffers old (fault n) e = refl

module _ (m : ℕ) (costs lengths numbers : List ℕ) where
  abbrev now : Lists
  now = lists Spp1 m (map signed costs) lengths numbers

  abbrev former : FormerLists
  former = former_lists m costs lengths numbers

  faults : lists_fault now ≡ former_lists_fault former
  unfolding lists_fault former_lists_fault
  faults = rw (length-map costs signed, columns_are m 0 costs lengths)

  files : lists_fault now ≡ fine → render now ≡ former_render former
  unfolding lists_fault
  files e =
      let b = both _ _ (both _ _ e).1 in
      let long : length lengths ≡ length costs = eqb-true _ _ (asked _ 13 b.0) ∙ length-map costs signed in
      rw (prices_are m 0 costs lengths long (both _ _ b.1).0) (former_render_lem former)

  -- what the call answers, and the buffer afterwards
  pub former_writing_lem : (k : ℕ) → writing (lists Spp1 m (map signed costs) lengths numbers) k ≡ former_writing (former_lists m costs lengths numbers) k
  unfolding writing former_writing
  former_writing_lem k = rw (← faults) (outcomes k _ _ (lists_fault now) files)

  pub former_written : (k : ℕ) (old : List ℕ) → filled (writing now k) (render now) old ≡ filled (former_writing former k) (former_render former) old
  unfolding writing former_writing
  former_written k old = rw (← faults) (buffers k _ _ old (lists_fault now) files)
