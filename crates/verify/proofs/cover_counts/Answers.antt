-- The columns that are left to count give what all of them give.
use Rattle.std.proofs.Common.{arith}
use Rattle.verify.proofs.Walk.{covering_start, covering_ready, covering_next, covering-end, offered, number-low, entry-room, column_here}
use Rattle.verify.proofs.cover_counts.Goals as goal

pub loop-number-init : goal.loop-number-init
loop-number-init c = covering_start _ _ (offered _ _ c.requires.file_value c.requires.columns_value)

pub overflow_sub-from : goal.overflow_sub-from
overflow_sub-from c = omega (arith, c.from.ensures, number-low _ _ c.loop-number.invariant.offer _ c.loop-number-test.true)

pub entry_at-e-requires : goal.entry_at-e-requires
entry_at-e-requires c = rw c.from.ensures (entry-room _ _ c.loop-number.invariant.offer _ c.loop-number-test.true)

pub slice_bounds-count_rows-end : goal.slice_bounds-count_rows-end
slice_bounds-count_rows-end c =
    omega (
      arith,
      c.from-start.ensures,
      c.from-in-loop-number.ensures,
      (column_here _ _ c.loop-number.invariant.offer _ c.loop-number-test.true _ (rw c.from.ensures at c.entry_at-e.ensures)).inside,
    )

pub count_rows-requires : goal.count_rows-requires
count_rows-requires c =
    let r = covering_ready _ _ _ _ c.loop-number.invariant c.loop-number-test.true _ (rw c.from.ensures at c.entry_at-e.ensures) in
    rw (c.from-start.ensures, c.from-in-loop-number.ensures) (record { covered_len = r.0; by_index = r.1 })

pub loop-number-preserved : goal.loop-number-preserved
loop-number-preserved c =
    covering_next _ _ _ _ c.loop-number.invariant c.loop-number-test.true _ (rw c.from.ensures at c.entry_at-e.ensures) _
    (rw (c.from-start.ensures, c.from-in-loop-number.ensures) at c.count_rows.ensures)

pub returns : goal.returns
returns c = covering-end _ _ _ _ c.loop-number.invariant c.loop-number-test.false
