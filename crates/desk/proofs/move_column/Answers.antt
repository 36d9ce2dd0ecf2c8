-- The rows are counted, then the total and the mark are set.
use mir.Syntax.{w32}
use mir.Val.{SFits}
use Rattle.signed.proofs.Signs.{read_back_lem}
use Rattle.desk.specs.Desk.{new_total}
use Rattle.desk.proofs.Moves.{moved-is}
use borrow.Author.Rules.{rules}
use Rattle.desk.proofs.move_column.Goals as goal

pub returns : goal.returns
returns c =
    let t = c.args.total.now in
    let f : SFits w32 t = search rules in
    moved-is _ _ _ c.args.cost t _ _ _ _ _ _ _ _ c.count_change.ensures c.move_rows.ensures
    (read_back_lem (new_total c.args.way) t c.args.cost _ f c.ranges.cost c.new_total.type_inv c.new_total.ensures) c.new_mark.ensures
