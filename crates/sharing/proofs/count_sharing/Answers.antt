use mathlib.Core.Path.{◌∙◌}
use lib.ListN.{get_or-replicate}
use native.Mathlib.Omega.{arith}
use borrow.Author.Rules.{rules}
use Rattle.node.specs.Stored.{matrix_in}
use Rattle.node.proofs.Parts.{row-few}
use Rattle.sharing.proofs.Sharing.{sharing_start, sharing-few, sharing_next}
use Rattle.sharing.proofs.count_sharing.Goals as goal

pub loop-r-init : goal.loop-r-init
loop-r-init c = sharing_start _ _ _ _ _ c.requires (search rules) (λ k h. get_or-replicate 256 k 0 0 h)

pub mark_row-count-requires : goal.mark_row-count-requires
mark_row-count-requires c =
    let f = row-few (matrix_in _) c.loop-r.invariant.has.kept.small _ _ c.row_part-row.ensures in
    (f.0, f.1, c.loop-r.invariant.long)

pub overflow_add-count : goal.overflow_add-count
overflow_add-count c =
    let h = sharing-few _ _ _ _ _ _ _ c.loop-r.invariant c.loop-r-test.true _ (c.row_part-row.ensures ∙ rw c.from.ensures) _ _ c.mark_row-count.ensures in
    omega (arith, h)

pub loop-r-preserved : goal.loop-r-preserved
loop-r-preserved c = sharing_next _ _ _ _ _ _ _ c.loop-r.invariant c.loop-r-test.true _ (c.row_part-row.ensures ∙ rw c.from.ensures) _ _ c.mark_row-count.ensures
