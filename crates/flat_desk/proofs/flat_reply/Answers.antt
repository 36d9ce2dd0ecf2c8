-- By the arms of the match: a plan gives its cost.
use mir.Syntax.{w32}
use mir.Val.{SFits}
use Rattle.flat_desk.specs.Struct.{reply_in}
use Rattle.flat_desk.proofs.Plans.{plan_struct}
use borrow.Author.Rules.{rules}
use Rattle.flat_desk.proofs.flat_reply.Goals as goal

pub returns-in-None : goal.returns-in-None
unfolding reply_in
returns-in-None c = rw c.in-None.is

pub returns-in-Some : goal.returns-in-Some
returns-in-Some c =
    let f : SFits w32 c.in-Some.total = search rules in
    rw c.in-Some.is (plan_struct c.in-Some.total f)
