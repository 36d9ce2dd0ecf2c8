-- Each way out of the tests is one way out of the definition.
use mathlib.Core.Path.{sym, ◌∙◌}
use borrow.Author.Tests.{eq-eqb, ne_eqb, le-leb, lt-leb}
use Rattle.refusals.specs.Refusals.{fault_of}
use Rattle.refusals.proofs.Laws.{stops_at, goes_on, passes, fails}
use Rattle.search.specs.Requests.{pair_fault}
use Rattle.search.proofs.check_pairs.Goals as goal

pub returns-then-pairs-ne0 : goal.returns-then-pairs-ne0
unfolding fault_of pair_fault
returns-then-pairs-ne0 c = sym (stops_at 21 _ (fails 21 (ne_eqb _ 0 c.if-pairs-ne0.true)))

pub returns-then-pairs-gt256 : goal.returns-then-pairs-gt256
unfolding fault_of pair_fault
returns-then-pairs-gt256 c = sym (goes_on _ (passes 21 (eq-eqb _ 0 c.if-pairs-ne0.false)) ∙ stops_at 21 _ (fails 21 (lt-leb _ _ c.if-pairs-gt256.true)))

pub returns-then-not-are_pairs : goal.returns-then-not-are_pairs
unfolding fault_of pair_fault
returns-then-not-are_pairs c =
    sym
    (goes_on _ (passes 21 (eq-eqb _ 0 c.if-pairs-ne0.false)) ∙ goes_on _ (passes 21 (le-leb _ _ c.if-pairs-gt256.false))
    ∙ fails 20 (sym c.are_pairs.ensures ∙ c.if-not-are_pairs.true))

pub returns : goal.returns
unfolding fault_of pair_fault
returns c =
    sym
    (goes_on _ (passes 21 (eq-eqb _ 0 c.if-pairs-ne0.false)) ∙ goes_on _ (passes 21 (le-leb _ _ c.if-pairs-gt256.false))
    ∙ passes 20 (sym c.are_pairs.ensures ∙ c.if-not-are_pairs.false))
