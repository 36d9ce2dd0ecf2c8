-- Three numbers one after the other.
use mir.Syntax.{w64}
use mir.Val.{SFits}
use Rattle.line.specs.Line.{fields}
use Rattle.line.proofs.Puts.{put_then, put_last, put_same}
use borrow.Author.Rules.{rules}
use Rattle.line.proofs.put_halted.Goals as goal

pub returns-clause-put : goal.returns-clause-put
unfolding fields
returns-clause-put c =
    let first = c.put_signed-nodes.ensures.put in
    let second = c.put_number-duties.ensures.put in
    let f : SFits w64 c.args.halted.bound = search rules in
    put_then _ _ _ _ _ _ _ _ (put_same _ f _ _ _ _ first)
    (put_then _ _ _ _ _ _ _ _ (rw c.from.ensures at second) (put_last _ _ _ _ _ c.put_number.ensures.put))
