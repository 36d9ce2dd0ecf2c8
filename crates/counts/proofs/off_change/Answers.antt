use Rattle.std.proofs.Common.{eq-eqb, ne_eqb}
use Rattle.counts.specs.Counts.{off_by}
use Rattle.counts.proofs.off_change.Goals as goal

pub returns-then-old-eq1 : goal.returns-then-old-eq1
unfolding off_by
returns-then-old-eq1 c = simp (off_by, eq-eqb _ _ c.if-old-eq1.true)

pub returns-then-new-eq1 : goal.returns-then-new-eq1
unfolding off_by
returns-then-new-eq1 c = simp (off_by, ne_eqb _ _ c.if-old-eq1.false, eq-eqb _ _ c.if-new-eq1.true)

pub returns : goal.returns
unfolding off_by
returns c = simp (off_by, ne_eqb _ _ c.if-old-eq1.false, ne_eqb _ _ c.if-new-eq1.false)
