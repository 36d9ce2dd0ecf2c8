-- Each way out of the tests is one way out of the definition.
use Rattle.std.specs.Prelude.{◌≡◌, ℕ, List, Result}
use native.Mathlib.Omega.{arith}
use mathlib.Core.Path.{sym, ◌∙◌}
use Rattle.refusals.specs.Refusals.{fault_of}
use Rattle.refusals.proofs.Laws.{passed, failed, handed_on}
use Rattle.refusals.specs.declared.Refusal.{Refusal}
use Rattle.dutyfile.specs.File.{rows_in, columns_in}
use Rattle.dutyfile.specs.Faults.{counts_fault}
use Rattle.dutyfile.proofs.Facts.{counts-fine}
use Rattle.examine.proofs.Header.{header-short, header_other, header-counts, header-cut, header-whole}
use Rattle.examine.proofs.check_header.Goals as goal

-- the test of the counts is of those in the file
counted : (r : Result (Unit {0}) Refusal) (s : List ℕ) (m n : ℕ) → m ≡ rows_in s → n ≡ columns_in s → fault_of r ≡ counts_fault m n →
    fault_of r ≡ counts_fault (rows_in s) (columns_in s)
counted r s m n em en e = rw (em, en) at e

pub returns-then-file-lt8 : goal.returns-then-file-lt8
unfolding fault_of
returns-then-file-lt8 c = header-short _ c.if-file-lt8.true

pub returns-then-not-is_marked : goal.returns-then-not-is_marked
unfolding fault_of
returns-then-not-is_marked c = header_other _ c.if-file-lt8.false (sym c.is_marked.ensures ∙ c.if-not-is_marked.true)

pub overflow_mul-columns : goal.overflow_mul-columns
overflow_mul-columns c = omega (arith, (counts-fine _ _ (passed c.check_counts.ensures c.in_ok-check_counts.was)).columns.most)

pub overflow_add-columns : goal.overflow_add-columns
overflow_add-columns c = omega (arith, (counts-fine _ _ (passed c.check_counts.ensures c.in_ok-check_counts.was)).columns.most)

pub returns-then-file-columns : goal.returns-then-file-columns
unfolding fault_of
returns-then-file-columns c =
    let e = counted _ c.args.file.now _ _ c.row_count.ensures c.column_count-columns.ensures c.check_counts.ensures in
    header-cut _ c.if-file-lt8.false (sym c.is_marked.ensures ∙ c.if-not-is_marked.false) (passed e c.in_ok-check_counts.was) (omega (arith, c.column_count-columns.ensures, c.if-file-columns.true))

pub returns-in_err-check_counts : goal.returns-in_err-check_counts
unfolding fault_of
returns-in_err-check_counts c =
    let e = counted _ c.args.file.now _ _ c.row_count.ensures c.column_count-columns.ensures c.check_counts.ensures in
    rw (handed_on _ _ c.from_residual.ensures.1) (header-counts _ c.if-file-lt8.false (sym c.is_marked.ensures ∙ c.if-not-is_marked.false) _ (failed e _ c.in_err-check_counts.was))

pub returns : goal.returns
unfolding fault_of
returns c =
    let e = counted _ c.args.file.now _ _ c.row_count.ensures c.column_count-columns.ensures c.check_counts.ensures in
    header-whole _ c.if-file-lt8.false (sym c.is_marked.ensures ∙ c.if-not-is_marked.false) (passed e c.in_ok-check_counts.was) (omega (arith, c.column_count-columns.ensures, c.if-file-columns.false))
