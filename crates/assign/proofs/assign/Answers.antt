-- The table is tested; only where all tests pass is the list filled.
use Rattle.refusals.proofs.Laws.{failed, passed, handed_on}
use Rattle.assign.specs.Answer.{assign_outcome}
use Rattle.assign.proofs.Tests.{sized}
use Rattle.assign.proofs.Answers.{call-refused, call-accepted}
use Rattle.assign.proofs.assign.Goals as goal

pub solve-requires : goal.solve-requires
solve-requires c = sized _ _ _ _ (passed c.check_table.ensures c.in_ok-check_table.was)

pub returns-in_err-check_table : goal.returns-in_err-check_table
unfolding assign_outcome
returns-in_err-check_table c =
    let r = call-refused _ _ _ _ _ (failed c.check_table.ensures _ c.in_err-check_table.was) in
    rw (handed_on _ _ c.from_residual.ensures.1) (record { result_value = r.0; answer_after = r.1.0; assigned = r.1.1 })

pub returns : goal.returns
returns c =
    let r = call-accepted _ _ _ _ (passed c.check_table.ensures c.in_ok-check_table.was) _ _ c.solve.ensures.result_value c.solve.ensures.answer_after in
    record { result_value = r.0; answer_after = r.1.0; assigned = r.1.1 }
