-- A vessel that is used or closed comes to no total, and else to its cost and the rest.
use mathlib.Core.Path.{sym, ◌∙◌, ap}
use Prim.Native.Nat.{◌+◌, ◌%◌}
use native.Mathlib.Nat.{mod-eq_of_lt}
use native.Mathlib.Omega.{arith}
use lib.ListN.{get_or}
use borrow.Author.Tests.{eq-eqb, ne_eqb}
use Rattle.assignments.specs.Sets.{offer}
use Rattle.assignments.proofs.Picks.{offer-free}
use Rattle.vessel_sets.proofs.vessel_offer.Goals as goal

pub returns-then-rest-ne0 : goal.returns-then-rest-ne0
unfolding offer
returns-then-rest-ne0 c = simp (offer, ne_eqb (c.args.rest % 2) 0 c.if-rest-ne0.true)

pub returns-then-cost-eq0 : goal.returns-then-cost-eq0
unfolding offer
returns-then-cost-eq0 c =
    let a = c.args in
    simp (offer, eq-eqb (a.rest % 2) 0 c.if-rest-ne0.false, eq-eqb a.cost 0 c.if-cost-eq0.true)

pub overflow_add-result : goal.overflow_add-result
overflow_add-result c = omega (arith, c.requires.priced, c.requires.low ((c.args.s + c.args.w) % 65536))

pub returns : goal.returns
returns c =
    let unused = c.if-rest-ne0.false in
    ap (λ u. c.args.cost + get_or c.args.least.now u 0) (mod-eq_of_lt (c.requires.inside unused))
    ∙ sym (offer-free _ _ _ unused (omega arith))
