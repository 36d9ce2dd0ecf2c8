-- The rows that are left to count give what all of them give.
use Rattle.std.proofs.Common.{arith}
use Rattle.dutyfile.proofs.Rising.{rising-at}
use Rattle.verify.proofs.Counting.{counting_next, counting_end}
use Rattle.verify.proofs.count_rows.Goals as goal

pub overflow_sub-row : goal.overflow_sub-row
overflow_sub-row c = omega (arith, c.from-row.ensures, rising-at 0 64 _ _ c.requires.covered_len.1 c.loop-number-test.true)

pub bounds-covered-row : goal.bounds-covered-row
bounds-covered-row c = omega (arith, c.from-row.ensures, rising-at 0 64 _ _ c.requires.covered_len.1 c.loop-number-test.true)

pub bounds-covered-row-in-loop-number : goal.bounds-covered-row-in-loop-number
bounds-covered-row-in-loop-number c = omega (arith, c.from-row.ensures, rising-at 0 64 _ _ c.requires.covered_len.1 c.loop-number-test.true)

pub loop-number-preserved : goal.loop-number-preserved
loop-number-preserved c = rw c.from-row.ensures (counting_next _ _ c.requires.covered_len.1 _ _ c.loop-number.invariant c.loop-number-test.true)

pub returns : goal.returns
returns c = counting_end _ _ c.requires.covered_len.1 _ _ c.loop-number.invariant c.loop-number-test.false
