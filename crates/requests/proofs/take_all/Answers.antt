-- The columns that are left to be taken give what all of them give.
use Rattle.goals.proofs.Taking.{takes-room, takes-is}
use Rattle.requests.proofs.Loops.{taking_struck, taking_dead, taking_takes, taking_next, taking_end}
use Rattle.requests.proofs.take_all.Goals as goal
use Rattle.requests.proofs.take_all.Goals.{then-not-holds+else-s-j-ne1, else-not-holds}

pub returns-then-s-j-ne1 : goal.returns-then-s-j-ne1
returns-then-s-j-ne1 c = taking_dead _ _ _ _ _ _ _ c.loop-number.invariant c.loop-number-test.true _ c.holds.ensures c.if-not-holds.true c.if-s-j-ne1.true

pub join-bound-requires : goal.join-bound-requires
join-bound-requires c = takes-room _ _ _ _ (taking_takes _ _ _ _ _ _ _ c.loop-number.invariant c.loop-number-test.true _ c.holds.ensures c.if-not-holds.true c.requires.numbered c.if-s-j-ne1.false)

pub loop-number-preserved : goal.loop-number-preserved
loop-number-preserved c = elim c.if-not-holds.branch [
  | then-not-holds+else-s-j-ne1 w ↦
      let takes = taking_takes _ _ _ _ _ _ _ c.loop-number.invariant c.loop-number-test.true _ c.holds.ensures w.if-not-holds.true c.requires.numbered w.if-s-j-ne1.false in
      rw w.s-is
      (taking_next _ _ _ _ _ _ _ c.loop-number.invariant c.loop-number-test.true _ c.holds.ensures w.if-not-holds.true c.requires.numbered w.if-s-j-ne1.false _
      (takes-is _ _ _ _ takes _ w.join-bound.ensures _ w.take-s.ensures))
  | else-not-holds w ↦ rw w.s-is (taking_struck _ _ _ _ _ _ _ c.loop-number.invariant c.loop-number-test.true _ c.holds.ensures w.if-not-holds.false)
]

pub returns : goal.returns
returns c = taking_end _ _ _ _ _ _ _ c.loop-number.invariant c.loop-number-test.false
