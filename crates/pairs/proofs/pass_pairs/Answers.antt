-- The pairs that are left to be gone through give what all of them give.
use native.Mathlib.Omega.{arith}
use Rattle.goals.proofs.Taking.{takes-room, takes-column, takes_low, takes-is}
use Rattle.pairs.proofs.Passing.{both_in, both_low, passing_start, passing_dead, passing_nothing, passing_leaves, passing_takes, passing_taken}
use Rattle.pairs.proofs.Passing.{passing_end}
use Rattle.pairs.proofs.pass_pairs.Goals as goal
use Rattle.pairs.proofs.pass_pairs.Goals.{in-TakeSecond, in-LeaveFirst, in-Nothing}

pub loop-first-init : goal.loop-first-init
loop-first-init c = passing_start _ _ _ _ _ c.requires c.as_chunks.ensures.front

pub overflow_sub-first : goal.overflow_sub-first
overflow_sub-first c = (both_in _ _ _ c.as_chunks.ensures.front c.requires.fits _ c.loop-first-test.true).0.0

pub overflow_sub-second : goal.overflow_sub-second
overflow_sub-second c = (both_in _ _ _ c.as_chunks.ensures.front c.requires.fits _ c.loop-first-test.true).1.0

pub pair_asks-requires : goal.pair_asks-requires
pair_asks-requires c = let b = both_low _ _ _ c.as_chunks.ensures.front c.requires.fits c.requires.some.kept.small.fits.wide _ c.loop-first-test.true in (omega (arith, b.0, b.1), omega (arith, b.0, b.1))

pub bounds-s-second : goal.bounds-s-second
bounds-s-second c = takes_low _ _ _ _ (passing_takes _ _ _ _ _ _ _ c.loop-first.invariant c.loop-first-test.true _ c.pair_asks.ensures (both_in _ _ _ c.as_chunks.ensures.front c.requires.fits _ c.loop-first-test.true) c.in-TakeSecond.is)

pub join-bound-requires : goal.join-bound-requires
join-bound-requires c = takes-room _ _ _ _ (passing_takes _ _ _ _ _ _ _ c.loop-first.invariant c.loop-first-test.true _ c.pair_asks.ensures (both_in _ _ _ c.as_chunks.ensures.front c.requires.fits _ c.loop-first-test.true) c.in-TakeSecond.is)

pub take-s-requires : goal.take-s-requires
take-s-requires c = takes-column _ _ _ _ (passing_takes _ _ _ _ _ _ _ c.loop-first.invariant c.loop-first-test.true _ c.pair_asks.ensures (both_in _ _ _ c.as_chunks.ensures.front c.requires.fits _ c.loop-first-test.true) c.in-TakeSecond.is)

pub returns-in-Dead : goal.returns-in-Dead
returns-in-Dead c = passing_dead _ _ _ _ _ _ _ c.loop-first.invariant c.loop-first-test.true _ c.pair_asks.ensures c.in-Dead.is

pub leave-s-requires : goal.leave-s-requires
leave-s-requires c = (both_low _ _ _ c.as_chunks.ensures.front c.requires.fits c.requires.some.kept.small.fits.wide _ c.loop-first-test.true).0

pub loop-first-preserved : goal.loop-first-preserved
loop-first-preserved c =
    let b = both_in _ _ _ c.as_chunks.ensures.front c.requires.fits _ c.loop-first-test.true in
    elim c.match-pair_asks.branch [
      | in-TakeSecond w ↦
          let takes = passing_takes _ _ _ _ _ _ _ c.loop-first.invariant c.loop-first-test.true _ c.pair_asks.ensures b w.in-TakeSecond.is in
          rw w.s-is
          (passing_taken _ _ _ _ _ _ _ c.loop-first.invariant c.loop-first-test.true _ c.pair_asks.ensures b w.in-TakeSecond.is _
          (takes-is _ _ _ _ takes _ w.join-bound.ensures _ w.take-s.ensures))
      | in-LeaveFirst w ↦
          rw w.s-is
          (passing_leaves _ _ _ _ _ _ _ c.loop-first.invariant c.loop-first-test.true _ c.pair_asks.ensures b w.in-LeaveFirst.is _ w.leave-s.ensures)
      | in-Nothing w ↦
          rw w.s-is (passing_nothing _ _ _ _ _ _ _ c.loop-first.invariant c.loop-first-test.true _ c.pair_asks.ensures w.in-Nothing.is)
    ]

pub returns : goal.returns
returns c = passing_end _ _ _ _ _ _ _ c.loop-first.invariant c.loop-first-test.false
