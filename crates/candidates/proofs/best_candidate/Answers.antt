use mathlib.Core.Path.{refl, sym, ◌∙◌}
use Rattle.node.specs.Stored.{matrix_in}
use Rattle.node.proofs.Parts.{row_columns_lem}
use Rattle.candidates.proofs.Best.{choosing_start, choosing_open, choosing_zero, choosing_closed, choosing_end}
use Rattle.candidates.proofs.best_candidate.Goals as goal
use Rattle.candidates.proofs.best_candidate.Goals.{then-row-i-eq1+then-has_zero, then-row-i-eq1+else-has_zero, else-row-i-eq1}

pub loop-i-init : goal.loop-i-init
loop-i-init c = choosing_start _ _ _ _ _ c.requires refl

pub has_zero-requires : goal.has_zero-requires
has_zero-requires c = row_columns_lem (matrix_in _) c.loop-i.invariant.pass.kept.small _ _ c.row_part.ensures

pub loop-i-preserved : goal.loop-i-preserved
loop-i-preserved c =
    let i = c.loop-i.invariant in
    let t = rw c.row_count-i-end.ensures at c.loop-i-test.true in
    elim c.if-row-i-eq1.branch [
      | then-row-i-eq1+then-has_zero w ↦
          rw (w.row-is, w.best-is)
          (choosing_zero _ _ _ _ _ _ _ _ i t w.if-row-i-eq1.true _ w.row_part.ensures (sym w.if-has_zero.true ∙ w.has_zero.ensures))
      | then-row-i-eq1+else-has_zero w ↦
          rw (w.row-is, w.best-is) (choosing_open _ _ _ _ _ _ _ _ i t w.if-row-i-eq1.true _ _ w.row_candidate.ensures w.better_of-best.ensures)
      | else-row-i-eq1 w ↦ rw (w.row-is, w.best-is) (choosing_closed _ _ _ _ _ _ _ _ i t w.if-row-i-eq1.false)
    ]

pub returns : goal.returns
returns c = choosing_end _ _ _ _ _ _ _ _ c.loop-i.invariant (rw c.row_count-i-end.ensures at c.loop-i-test.false)
