-- A dead node and a plan are as forcing leaves them; else the forced node is reduced.
use mathlib.Core.Path.{◌∙◌}
use borrow.Author.Tests.{not-true, not-false}
use Rattle.rules.specs.Goals.{search_for}
use Rattle.rules.proofs.Goals.{sum-workable}
use Rattle.goals.proofs.Raising.{raised_is}
use Rattle.visit.proofs.Settling.{forced_workable, settle-dead, settle-full, settle_open}
use Rattle.visit.proofs.settle.Goals as goal

pub returns-then-not-forced : goal.returns-then-not-forced
returns-then-not-forced c = settle-dead _ _ _ _ c.force_with-forced.ensures (not-true _ c.if-not-forced.true)

pub returns-then-is_full : goal.returns-then-is_full
returns-then-is_full c =
    settle-full _ _ _ _ c.force_with-forced.ensures (not-false _ c.if-not-forced.false) _ c.is_full.ensures
    c.if-is_full.true

pub reduce_node-done-requires : goal.reduce_node-done-requires
reduce_node-done-requires c = sum-workable _ _ (rw c.in-Sum.is at (forced_workable _ _ _ _ c.requires _ c.force_with-forced.ensures))

pub returns-in-Sum : goal.returns-in-Sum
unfolding search_for
returns-in-Sum c =
    settle_open _ _ _ _ c.force_with-forced.ensures (not-false _ c.if-not-forced.false) _ c.is_full.ensures
    c.if-is_full.false _ (c.reduce_node-done.ensures.node_is ∙ rw c.in-Sum.is)

pub returns-in-Longest : goal.returns-in-Longest
unfolding search_for
returns-in-Longest c =
    settle_open _ _ _ _ c.force_with-forced.ensures (not-false _ c.if-not-forced.false) _ c.is_full.ensures
    c.if-is_full.false _ (raised_is _ _ _ c.raise.ensures ∙ rw c.in-Longest.is)
