-- The file is examined, then the column's number.
use mathlib.Core.Path.{sym, ap, ◌∙◌}
use native.Mathlib.Omega.{arith}
use Rattle.refusals.specs.Refusals.{outcome, accepted}
use Rattle.refusals.proofs.Laws.{refuses, unless-fine, unless-fault}
use Rattle.dutyfile.proofs.Facts.{file-fine}
use Rattle.desk.proofs.Ways.{fault-file, fault-low, fault_high, fault-none, shape_passes, shape_columns}
use Rattle.desk.proofs.find_column.Goals.{then-number-lt1-via-then-number-lt1, then-number-lt1-via-else-number-lt1+then-shape-number}
use Rattle.desk.proofs.find_column.Goals as goal

pub returns-in-Err : goal.returns-in-Err
unfolding outcome
returns-in-Err c = unless-fault _ _ (fault-file _ _ _ (refuses _ _ _ (sym (rw c.in-Err.is at c.examine.ensures))))

pub returns-then-number-lt1 : goal.returns-then-number-lt1
unfolding outcome
returns-then-number-lt1 c =
    let ok = shape_passes _ _ (rw c.in-Ok.is at c.examine.ensures) in
    let n = shape_columns _ _ (rw c.in-Ok.is at c.examine.ensures) in
    unless-fault _ 19
    (elim c.then-number-lt1.branch [
      | then-number-lt1-via-then-number-lt1 w ↦ fault-low _ _ ok w.if-number-lt1.true
      | then-number-lt1-via-else-number-lt1+then-shape-number w ↦ fault_high _ _ ok w.if-number-lt1.false (omega (arith, n))
    ])

pub entry_at-requires : goal.entry_at-requires
unfolding outcome
entry_at-requires c =
    let ok = shape_passes _ _ (rw c.in-Ok.is at c.examine.ensures) in
    let n = shape_columns _ _ (rw c.in-Ok.is at c.examine.ensures) in
    let h = (file-fine _ ok).walked.header in
    omega (arith, n, h.counts.columns.most, h.contents)

pub returns : goal.returns
unfolding outcome
returns c =
    let ok = shape_passes _ _ (rw c.in-Ok.is at c.examine.ensures) in
    let n = shape_columns _ _ (rw c.in-Ok.is at c.examine.ensures) in
    ap accepted c.entry_at.ensures ∙ unless-fine _ (fault-none _ _ ok (omega arith) (omega (arith, n)))
