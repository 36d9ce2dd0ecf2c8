-- The count so far and the free columns that are left make the whole.
use native.Mathlib.Omega.{arith}
use Rattle.forcing.proofs.Columns.{counting_start, counting_free, counting_other, counting_end}
use Rattle.forcing.proofs.free_count.Goals as goal
use Rattle.forcing.proofs.free_count.Goals.{then-column-j-eq1, else-column-j-eq1}

pub loop-j-init : goal.loop-j-init
loop-j-init c = counting_start _ _

pub overflow_cast-j : goal.overflow_cast-j
overflow_cast-j c = omega (arith, c.type_inv.columns c.loop-j.j-index)

pub bounds-column-j : goal.bounds-column-j
bounds-column-j c = c.requires _ c.loop-j-test.true

pub overflow_add-n : goal.overflow_add-n
overflow_add-n c = omega (arith, c.loop-j.invariant.few)

pub loop-j-preserved : goal.loop-j-preserved
loop-j-preserved c = elim c.if-column-j-eq1.branch [
  | then-column-j-eq1 w ↦ rw w.n-is (counting_free _ _ _ _ c.loop-j.invariant c.loop-j-test.true w.if-column-j-eq1.true)
  | else-column-j-eq1 w ↦ rw w.n-is (counting_other _ _ _ _ c.loop-j.invariant c.loop-j-test.true w.if-column-j-eq1.false)
]

pub returns : goal.returns
returns c = counting_end _ _ _ _ c.loop-j.invariant c.loop-j-test.false
