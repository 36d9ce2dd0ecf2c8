-- The node at hand comes to what the first one does, and each step leaves fewer free columns.
use mathlib.Core.Path.{sym, ◌∙◌}
use native.Mathlib.Omega.{arith}
use borrow.Author.Tests.{not-true, not-false}
use Rattle.goals.proofs.Taking.{takes-room, takes-column, takes_low, takes-is}
use Rattle.pairs.proofs.Settling.{settling_dead, settling_takes, settling_less, settling_taken}
use Rattle.pairs.proofs.Settling.{settling_idle, settling_ends, settling_next, settling_fewer}
use Rattle.pairs.proofs.force_with.Goals as goal

pub returns-in-Dead : goal.returns-in-Dead
returns-in-Dead c = settling_dead _ _ _ _ _ c.loop-s.invariant _ c.open_rows_ask-found.ensures c.in-Dead.is

pub returns-then-not-some_asks : goal.returns-then-not-some_asks
returns-then-not-some_asks c =
    settling_idle _ _ _ _ _ c.loop-s.invariant _ c.open_rows_ask-found.ensures c.in-Settled.is
    (sym c.some_asks.ensures ∙ c.if-not-some_asks.true)

pub returns-then-not-passed : goal.returns-then-not-passed
returns-then-not-passed c =
    let w = c.loop-s.invariant in
    settling_ends _ _ _ _ _ w _ c.open_rows_ask-found.ensures c.in-Settled.is _ c.pass_pairs-passed.ensures (not-true _ c.if-not-passed.true)

pub loop-s-smaller-else-not-passed : goal.loop-s-smaller-else-not-passed
loop-s-smaller-else-not-passed c =
    let w = c.loop-s.invariant in
    settling_fewer _ _ _ _ _ w _ c.open_rows_ask-found.ensures c.in-Settled.is _ c.pass_pairs-passed.ensures
    (sym c.some_asks.ensures ∙ c.if-not-some_asks.false) (not-false _ c.if-not-passed.false)

pub loop-s-preserved-else-not-passed : goal.loop-s-preserved-else-not-passed
loop-s-preserved-else-not-passed c =
    let w = c.loop-s.invariant in
    settling_next _ _ _ _ _ w _ c.open_rows_ask-found.ensures c.in-Settled.is _ c.pass_pairs-passed.ensures
    (sym c.some_asks.ensures ∙ c.if-not-some_asks.false) (not-false _ c.if-not-passed.false)

pub offset_bounds-s-j : goal.offset_bounds-s-j
offset_bounds-s-j c = omega (arith, takes_low _ _ _ _ (settling_takes _ _ _ _ _ c.loop-s.invariant _ c.open_rows_ask-found.ensures _ c.in-Take.is))

pub bounds-s-j : goal.bounds-s-j
bounds-s-j c = takes_low _ _ _ _ (settling_takes _ _ _ _ _ c.loop-s.invariant _ c.open_rows_ask-found.ensures _ c.in-Take.is)

pub join-bound-requires : goal.join-bound-requires
join-bound-requires c = takes-room _ _ _ _ (settling_takes _ _ _ _ _ c.loop-s.invariant _ c.open_rows_ask-found.ensures _ c.in-Take.is)

pub take-s-requires : goal.take-s-requires
take-s-requires c = takes-column _ _ _ _ (settling_takes _ _ _ _ _ c.loop-s.invariant _ c.open_rows_ask-found.ensures _ c.in-Take.is)

pub loop-s-smaller : goal.loop-s-smaller
loop-s-smaller c =
    settling_less _ _ _ _ _ c.loop-s.invariant _ c.open_rows_ask-found.ensures _ c.in-Take.is _
    (takes-is _ _ _ _ (settling_takes _ _ _ _ _ c.loop-s.invariant _ c.open_rows_ask-found.ensures _ c.in-Take.is) _ c.join-bound.ensures _ c.take-s.ensures)

pub loop-s-preserved : goal.loop-s-preserved
loop-s-preserved c =
    settling_taken _ _ _ _ _ c.loop-s.invariant _ c.open_rows_ask-found.ensures _ c.in-Take.is _
    (takes-is _ _ _ _ (settling_takes _ _ _ _ _ c.loop-s.invariant _ c.open_rows_ask-found.ensures _ c.in-Take.is) _ c.join-bound.ensures _ c.take-s.ensures)
