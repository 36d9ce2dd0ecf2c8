use mathlib.Core.Path.{◌∙◌, sym}
use Rattle.columns.specs.Column.{column_precedes}
use Rattle.node.proofs.Parts.{column-low}
use Rattle.node.proofs.Passes.{better_so, better-not}
use Rattle.columns.proofs.Columns.{picking_start, picking_column, picking_few, picking_zero, picking_other, picking_end}
use Rattle.columns.proofs.column_in.Goals as goal
use Rattle.columns.proofs.column_in.Goals.{then-is_zero+then-column_precedes, then-is_zero+else-column_precedes, else-is_zero}

pub loop-j-init : goal.loop-j-init
loop-j-init c = picking_start _ _ _ _ c.requires.0 c.requires.1

pub bounds-column-j : goal.bounds-column-j
bounds-column-j c = rw c.from-j.ensures (column-low _ _ (picking_column _ _ _ _ _ _ c.loop-j.invariant c.loop-j-test.true))

pub bounds-cost-j : goal.bounds-cost-j
bounds-cost-j c = rw c.from-j.ensures (column-low _ _ (picking_column _ _ _ _ _ _ c.loop-j.invariant c.loop-j-test.true))

pub column_statistics-found-requires : goal.column_statistics-found-requires
column_statistics-found-requires c = rw c.from-j.ensures (picking_column _ _ _ _ _ _ c.loop-j.invariant c.loop-j-test.true)

pub column_precedes-requires : goal.column_precedes-requires
column_precedes-requires c = (
  picking_few _ _ _ _ _ _ c.loop-j.invariant c.loop-j-test.true _ (c.column_statistics-found.ensures ∙ rw c.from-j.ensures),
  c.loop-j.invariant.few,
)

pub loop-j-preserved : goal.loop-j-preserved
loop-j-preserved c =
    let i = c.loop-j.invariant in
    let t = c.loop-j-test.true in
    let e = c.from-j.ensures in
    let z = c.is_zero.ensures in
    elim c.if-is_zero.branch [
      | then-is_zero+then-column_precedes w ↦
          let f = w.column_statistics-found in
          rw w.best-is
          (picking_zero _ _ _ _ _ _ i t _ (f.ensures ∙ rw e) (rw (← e) (sym z ∙ w.if-is_zero.true)) _
          (better_so column_precedes c.loop-j.best f.result _ w.column_precedes.ensures w.if-column_precedes.true))
      | then-is_zero+else-column_precedes w ↦
          let f = w.column_statistics-found in
          rw w.best-is
          (picking_zero _ _ _ _ _ _ i t _ (f.ensures ∙ rw e) (rw (← e) (sym z ∙ w.if-is_zero.true)) _
          (better-not column_precedes c.loop-j.best f.result _ w.column_precedes.ensures w.if-column_precedes.false))
      | else-is_zero w ↦ rw w.best-is (picking_other _ _ _ _ _ _ i t (rw (← e) (sym z ∙ w.if-is_zero.false)))
    ]

pub returns : goal.returns
returns c = picking_end _ _ _ _ _ _ c.loop-j.invariant c.loop-j-test.false
