-- The costs that are left give, with the sum so far, the whole sum.
use Rattle.std.proofs.Common.{refl, ◌∙◌, arith, rules}
use Rattle.signed.proofs.Signs.{given}
use Rattle.verify.proofs.Walk.{costing_start, costing_next, costing_end, offered, number-low, entry-room}
use Rattle.verify.proofs.total_cost.Goals as goal

pub loop-number-init : goal.loop-number-init
loop-number-init c = costing_start _ _ (offered _ _ c.requires.file_value c.requires.columns_value)

pub overflow_sub-from : goal.overflow_sub-from
overflow_sub-from c = omega (arith, c.from.ensures, number-low _ _ c.loop-number.invariant.offer _ c.loop-number-test.true)

pub entry_at-e-requires : goal.entry_at-e-requires
entry_at-e-requires c = rw c.from.ensures (entry-room _ _ c.loop-number.invariant.offer _ c.loop-number-test.true)

pub loop-number-preserved : goal.loop-number-preserved
loop-number-preserved c =
    costing_next _ _ _ _ c.loop-number.invariant c.loop-number-test.true _ (rw c.from.ensures at c.entry_at-e.ensures) _ (search rules) refl

pub returns : goal.returns
returns c = given _ c.from_bits.type_inv ∙ c.from_bits.ensures ∙ costing_end _ _ _ _ c.loop-number.invariant c.loop-number-test.false
