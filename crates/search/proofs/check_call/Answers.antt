-- Each way out of the tests is one way out of the definition.
use mathlib.Core.Path.{sym, ◌∙◌}
use borrow.Author.Tests.{le-leb, lt-leb}
use Rattle.refusals.specs.Refusals.{fault_of}
use Rattle.refusals.proofs.Laws.{stops_at, goes_on, passes, fails}
use Rattle.search.specs.Searching.{call_fault}
use Rattle.search.proofs.Ranges.{inside}
use Rattle.search.proofs.check_call.Goals as goal

pub returns-then-places-found : goal.returns-then-places-found
unfolding fault_of call_fault
returns-then-places-found c = sym (stops_at 10 _ (fails 10 (lt-leb _ _ c.if-places-found.true)))

pub returns-then-not-contains : goal.returns-then-not-contains
unfolding fault_of call_fault
returns-then-not-contains c =
    let n = c.new.ensures in
    let v = inside c.contains.result 1 1000000 c.args.limit (rw (n.start, n.end, n.exhausted) at c.contains.ensures.value) in
    sym (goes_on _ (passes 10 (le-leb _ _ c.if-places-found.false)) ∙ fails 11 (sym v ∙ c.if-not-contains.true))

pub returns : goal.returns
unfolding fault_of call_fault
returns c =
    let n = c.new.ensures in
    let v = inside c.contains.result 1 1000000 c.args.limit (rw (n.start, n.end, n.exhausted) at c.contains.ensures.value) in
    sym (goes_on _ (passes 10 (le-leb _ _ c.if-places-found.false)) ∙ passes 11 (sym v ∙ c.if-not-contains.false))
