-- The rows that are left to look at give what all of them give.
use Rattle.std.proofs.Common.{get_or, sym, ◌∙◌, to_z-of_z}
use Rattle.verify.proofs.Verdicts.{lowest-stop, lowest_next, lowest-end}
use Rattle.verify.proofs.judge.Goals as goal

pub returns-then-times-ne1 : goal.returns-then-times-ne1
returns-then-times-ne1 c =
    rw (to_z-of_z c.ranges.cost) at
    (sym (sym c.loop-i.invariant ∙ lowest-stop (λ k. get_or c.args.covered.now k 0) _ _ _ c.loop-i-test.true c.if-times-ne1.true))

pub loop-i-preserved : goal.loop-i-preserved
loop-i-preserved c = sym (lowest_next (λ k. get_or c.args.covered.now k 0) _ _ _ c.loop-i-test.true c.if-times-ne1.false) ∙ c.loop-i.invariant

pub returns : goal.returns
returns c =
    let f = to_z-of_z c.ranges.cost in
    rw f (rw f at (sym (sym c.loop-i.invariant ∙ lowest-end (λ k. get_or c.args.covered.now k 0) _ _ _ c.loop-i-test.false)))
