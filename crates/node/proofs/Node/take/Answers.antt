-- The tables that the steps leave are those that the definition makes.
use mathlib.Core.Path.{◌≡◌}
use lib.ListN.{length}
use Rattle.node.proofs.Taking.{taken_is, taken-body, taken-rows}
use borrow.Author.Rules.{rules}
use Rattle.node.specs.Stored.{matrix_in}
use Rattle.node.proofs.Node.take.Goals as goal

pub close_rows-requires : goal.close_rows-requires
close_rows-requires c = taken-body _ _ c.requires _ c.column_part-body.ensures

pub drop_rows-requires : goal.drop_rows-requires
drop_rows-requires c = taken-rows _ _ c.requires _ c.column_part-body.ensures

pub returns : goal.returns
returns c =
    taken_is (matrix_in _) c.requires.kept.small c.args.self _ _ c.requires.column ((let the_column-long : length c.args.self.column ≡ 256 = search rules in the_column-long)) ((let the_row-long : length c.args.self.row ≡ 64 = search rules in the_row-long)) _ c.column_part-body.ensures _ _
    c.close_rows.ensures c.drop_rows.ensures
