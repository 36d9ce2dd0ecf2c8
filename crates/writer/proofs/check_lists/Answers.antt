-- The tests go stage by stage; each way out is one of the definition's.
use mathlib.Core.Path.{sym, ◌∙◌}
use native.Mathlib.Omega.{arith}
use Rattle.refusals.specs.Refusals.{outcome}
use Rattle.refusals.proofs.Laws.{failed, passed, handed_on, accepts, refuses}
use Rattle.dutyfile.proofs.Facts.{counts-fine, columns-small}
use Rattle.writer.proofs.Tested.{counts_fail, lengths_differ, columns_fail, columns-pass}
use Rattle.writer.proofs.check_lists.Goals as goal

pub returns-in_err-check_counts : goal.returns-in_err-check_counts
unfolding outcome
returns-in_err-check_counts c =
    rw (← c.from-rows.ensures, handed_on _ _ c.from_residual.ensures.1) (counts_fail _ _ _ _ _ _ (failed c.check_counts.ensures _ c.in_err-check_counts.was))

pub returns-then-given-columns : goal.returns-then-given-columns
unfolding outcome
returns-then-given-columns c = rw (← c.from-rows.ensures) (lengths_differ _ _ _ _ _ (passed c.check_counts.ensures c.in_ok-check_counts.was) c.if-given-columns.true)

pub returns-in_err-total : goal.returns-in_err-total
unfolding outcome
returns-in_err-total c =
    rw (← c.from-rows.ensures, handed_on _ _ c.from_residual-in_err-total.ensures.1)
    (columns_fail _ _ _ _ _ (passed c.check_counts.ensures c.in_ok-check_counts.was) c.if-given-columns.false _
    (refuses _ _ _ (sym c.in_err-total.ensures)))

pub check_numbers-requires : goal.check_numbers-requires
unfolding outcome
check_numbers-requires c =
    let a = accepts _ _ _ (sym c.in_ok-total.ensures) in
    let n = (counts-fine _ _ (passed c.check_counts.ensures c.in_ok-check_counts.was)).columns.most in
    record {
      columns_bound = (n, omega (arith, sym a.1, columns-small _ _ 0 _ _ c.if-given-columns.false (omega arith) a.0));
      total_value = sym a.1;
    }

pub returns : goal.returns
unfolding outcome
returns c =
    let a = accepts _ _ _ (sym c.in_ok-total.ensures) in
    rw (← c.from-rows.ensures)
    (rw (sym a.1) at c.check_numbers.ensures
    ∙ columns-pass _ _ _ _ _ (passed c.check_counts.ensures c.in_ok-check_counts.was) c.if-given-columns.false a.0)
