-- Each way out of the tests is one way out of the definition.
use mathlib.Core.Path.{sym, ◌∙◌}
use Rattle.refusals.specs.Refusals.{fault_of}
use Rattle.refusals.proofs.Laws.{stops_at, goes_on, passes, fails}
use Rattle.dutyfile.proofs.Rising.{as_they_are}
use Rattle.search.specs.Requests.{request_fault}
use Rattle.search.proofs.check_requests.Goals as goal

pub returns-then-not-rises : goal.returns-then-not-rises
unfolding fault_of request_fault
returns-then-not-rises c = sym (stops_at 14 _ (fails 14 (sym (as_they_are _ _ _ c.rises.ensures) ∙ c.if-not-rises.true)))

pub returns-then-not-rises-2 : goal.returns-then-not-rises-2
unfolding fault_of request_fault
returns-then-not-rises-2 c =
    sym
    (goes_on _ (passes 14 (sym (as_they_are _ _ _ c.rises.ensures) ∙ c.if-not-rises.false))
    ∙ stops_at 15 _ (fails 15 (sym (as_they_are _ _ _ c.rises-2.ensures) ∙ c.if-not-rises-2.true)))

pub returns : goal.returns
unfolding request_fault
returns c =
    c.check_pairs.ensures
    ∙ sym
    (goes_on _ (passes 14 (sym (as_they_are _ _ _ c.rises.ensures) ∙ c.if-not-rises.false))
    ∙ goes_on _ (passes 15 (sym (as_they_are _ _ _ c.rises-2.ensures) ∙ c.if-not-rises-2.false)))
