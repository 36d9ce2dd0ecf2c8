-- The tests go stage by stage; each way out is one of the definition's.
use mathlib.Core.Path.{sym}
use Rattle.refusals.specs.Refusals.{outcome}
use Rattle.refusals.proofs.Laws.{failed, passed, accepts, refuses, handed_on}
use Rattle.examine.proofs.Examined.{header_fails, contents_fail}
use Rattle.examine.proofs.examine.Goals as goal

pub check_contents-requires : goal.check_contents-requires
check_contents-requires c = passed c.check_header.ensures c.in_ok-check_header.was

pub examine_bodies-requires : goal.examine_bodies-requires
unfolding outcome
examine_bodies-requires c = let a = accepts _ _ _ (sym c.in_ok-total.ensures) in record { file_value = passed c.check_header.ensures c.in_ok-check_header.was; file_value_2 = a.0; total_value = sym a.1 }

pub returns-in_err-check_header : goal.returns-in_err-check_header
unfolding outcome
returns-in_err-check_header c = rw (handed_on _ _ c.from_residual.ensures.1) (header_fails _ _ (failed c.check_header.ensures _ c.in_err-check_header.was))

pub returns-in_err-total : goal.returns-in_err-total
unfolding outcome
returns-in_err-total c =
    rw (handed_on _ _ c.from_residual-in_err-total.ensures.1)
    (contents_fail _ (passed c.check_header.ensures c.in_ok-check_header.was) _ (refuses _ _ _ (sym c.in_err-total.ensures)))
