use mathlib.Core.Path.{ap, ◌∙◌}
use mathlib.Core.List.{List}
use Prim.Native.Nat.{ℕ}
use Rattle.node.proofs.Parts.{row_columns_lem}
use Rattle.node.proofs.Passes.{carrying_next, carrying_end}
use Rattle.node.specs.Stored.{matrix_in}
use Rattle.node.specs.Taking.{all_dropped}
use Rattle.node.proofs.drop_rows.Goals as goal

pub drop_columns-requires : goal.drop_columns-requires
drop_columns-requires c = row_columns_lem (matrix_in _) c.requires.kept.small _ _ c.row_part.ensures

pub loop-r-preserved : goal.loop-r-preserved
loop-r-preserved c =
    carrying_next _ _ _ _ _ c.loop-r.invariant c.loop-r-test.true _
    (c.drop_columns.ensures ∙ ap (λ (row : List ℕ). all_dropped row c.loop-r.column) c.row_part.ensures ∙ rw c.from.ensures)

pub returns : goal.returns
returns c = carrying_end _ _ _ _ _ c.loop-r.invariant c.loop-r-test.false
