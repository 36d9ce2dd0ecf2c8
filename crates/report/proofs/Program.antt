-- The program's numbers are enough. Its node limit and places refuse no file that passes the tests of a file, and the line of a file is
-- that of its first 6,153 bytes, however long it is.
use mathlib.Core.Path.{◌≡◌, refl}
use mathlib.Core.List.{List}
use Prim.Native.Nat.{ℕ, ◌<◌}
use native.Mathlib.Omega.{arith}
use borrow.Author.Tests.{le-leb}
use lib.ListN.{take}
use lib.Seq.{take_all}
use Rattle.refusals.specs.Refusals.{Fault, fine, fault, ◌then◌, unless}
use Rattle.refusals.proofs.Laws.{passes}
use Rattle.dutyfile.specs.File.{added, shape}
use Rattle.dutyfile.specs.Faults.{file_fault}
use Rattle.dutyfile.proofs.Facts.{all_pass, within-asks, file-fine}
use Rattle.dutyfile.proofs.Front.{file-short, front-fault}
use Rattle.answer.specs.Answer.{values_of}
use Rattle.search.specs.Searching.{call_fault, file_answer, searching}
use Rattle.report.specs.Program.{program_line}

-- the places are as many as rows can be, and the node limit is in its range
pub file-refused : (s : List ℕ) → searching s 1000000 64 ≡ unless (file_fault s) (values_of (added s) (file_answer s 1000000))
unfolding searching call_fault shape ◌then◌
file-refused s = rw (go (file_fault s) refl)
  where
    go : (f : Fault) → file_fault s ≡ f → (f then call_fault (shape s) 64 1000000) ≡ f
    go fine e =
        all_pass (passes 10 (le-leb _ _ (file-fine s e).walked.header.counts.rows.most))
        (within-asks 1 1000000 1000000 11 (record { least = omega arith; most = omega arith }))
    go (fault k) e = refl

-- a file that passes is its own front, and any other is refused by its front's fault
front-searching : (k : ℕ) (s : List ℕ) (limit places : ℕ) → 6152 < k → searching (take k s) limit places ≡ searching s limit places
unfolding searching ◌then◌ unless
front-searching k s limit places most = rw (front-fault k s most) (go (file_fault s) (λ e. take_all k s (omega (arith, file-short s e))))
  where
    go : (f : Fault) → (f ≡ fine → take k s ≡ s) →
        unless (f then call_fault (shape (take k s)) places limit) (values_of (added (take k s)) (file_answer (take k s) limit)) ≡
        unless (f then call_fault (shape s) places limit) (values_of (added s) (file_answer s limit))
    go fine e = rw (e refl)
    go (fault n) e = refl

pub front_line : (s : List ℕ) → program_line (take 6153 s) ≡ program_line s
unfolding program_line
front_line s = rw (front-searching 6153 s 1000000 64 (omega arith))
