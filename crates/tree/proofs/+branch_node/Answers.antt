use mathlib.Core.Path.{◌≡◌, ◌∙◌}
use native.Mathlib.Omega.{arith}
use borrow.Author.Rules.{rules}
use borrow.Author.Tests.{not-true, not-false}
use Rattle.node.specs.Node.{take}
use Rattle.node.specs.Stored.{matrix_in}
use Rattle.rules.specs.Goals.{search_for}
use Rattle.goals.proofs.Taking.{takes-room, takes-column, takes_low, takes-is}
use Rattle.tree.proofs.Walking.{entered-sum, halted-sum, offered-sum, node-halts, node-ends, node-offers, node-reached, node-branches}
use Rattle.tree.proofs.Walking.{comes, can_branch, column-low, can_take, first-falls, first_walks, branch-stops}
use Rattle.tree.proofs.Walking.{branch-reached, branch-goes, second-falls, second_walks}
use Rattle.tree.proofs.+branch_node.Goals as goal

pub branch-choose_for-chosen-requires : goal.branch-choose_for-chosen-requires
branch-choose_for-chosen-requires t c = record { wide = search rules; node = c.requires.node }

-- the column chosen can be taken, and with the bound that is worked out it is taken as the search for the goal does
pub branch-bounds-s-j : goal.branch-bounds-s-j
branch-bounds-s-j t c = takes_low _ _ _ _ (can_take _ _ _ _ _ c.requires _ c.choose_for-chosen.ensures)

pub branch-join-bound-requires : goal.branch-join-bound-requires
branch-join-bound-requires t c = takes-room _ _ _ _ (can_take _ _ _ _ _ c.requires _ c.choose_for-chosen.ensures)

pub branch-take-child-requires : goal.branch-take-child-requires
branch-take-child-requires t c = takes-column _ _ _ _ (can_take _ _ _ _ _ c.requires _ c.choose_for-chosen.ensures)

pub branch-node-u-requires : goal.branch-node-u-requires
branch-node-u-requires t c =
    let a = c.args in
    let p = matrix_in a.matrix.now in
    let j = c.choose_for-chosen.result.column in
    let with : c.take-child.result ≡ take p a.s j ((search_for a.goal p).join a.s j) =
    takes-is _ _ _ _ (can_take _ _ _ _ _ c.requires _ c.choose_for-chosen.ensures) _ c.join-bound.ensures _ c.take-child.ensures in
    let l = first-falls _ _ _ _ _ c.requires _ c.choose_for-chosen.ensures _ with in
    (omega (arith, l, c.decreases), first_walks _ _ _ _ _ c.requires _ c.choose_for-chosen.ensures _ with)

pub branch-returns-then-u : goal.branch-returns-then-u
branch-returns-then-u t c =
    let with = takes-is _ _ _ _ (can_take _ _ _ _ _ c.requires _ c.choose_for-chosen.ensures) _ c.join-bound.ensures _ c.take-child.ensures in
    record {
      tree = branch-stops _ _ _ _ _ c.requires _ c.choose_for-chosen.ensures _ with c.node-u.result c.node-u.ensures.tree c.if-u.true;
      sum = c.node-u.ensures.sum;
    }

pub branch-returns-then-is_reached : goal.branch-returns-then-is_reached
branch-returns-then-is_reached t c =
    let with = takes-is _ _ _ _ (can_take _ _ _ _ _ c.requires _ c.choose_for-chosen.ensures) _ c.join-bound.ensures _ c.take-child.ensures in
    record {
      tree = branch-reached _ _ _ _ _ c.requires _ c.choose_for-chosen.ensures _ with c.node-u.result c.node-u.ensures.tree c.if-u.false _
          c.is_reached.ensures c.if-is_reached.true;
      sum = c.node-u.ensures.sum;
    }

pub branch-leave-child-requires : goal.branch-leave-child-requires
branch-leave-child-requires t c = column-low _ _ _ _ _ c.requires _ c.choose_for-chosen.ensures

pub branch-node-t-requires : goal.branch-node-t-requires
branch-node-t-requires t c =
    let l = second-falls _ _ _ _ _ c.requires _ c.choose_for-chosen.ensures _ c.leave-child.ensures in (
      omega (arith, l, c.decreases),
      second_walks _ _ _ _ _ c.requires _ c.choose_for-chosen.ensures _ c.leave-child.ensures _ c.node-u.ensures.sum,
    )

pub branch-returns : goal.branch-returns
branch-returns t c =
    let with = takes-is _ _ _ _ (can_take _ _ _ _ _ c.requires _ c.choose_for-chosen.ensures) _ c.join-bound.ensures _ c.take-child.ensures in
    record {
      tree = branch-goes _ _ _ _ _ c.requires _ c.choose_for-chosen.ensures _ with c.node-u.result c.node-u.ensures.tree c.if-u.false _
          c.is_reached.ensures c.if-is_reached.false _ c.leave-child.ensures c.node-t.result c.node-t.ensures.tree;
      sum = c.node-t.ensures.sum ∙ c.node-u.ensures.sum;
    }

pub node-returns-then-t-eq0 : goal.node-returns-then-t-eq0
node-returns-then-t-eq0 t c = record {
  tree = node-halts _ _ _ c.args.t c.if-t-eq0.true c.halt.result c.halt.ensures;
  sum = halted-sum c.args.t c.halt.result c.halt.ensures;
}

pub node-enter-u-requires : goal.node-enter-u-requires
node-enter-u-requires t c = (omega (arith, c.if-t-eq0.false), omega (arith, c.requires.count))

pub node-settle_node-found-requires : goal.node-settle_node-found-requires
node-settle_node-found-requires t c = c.requires.some

pub node-returns-then-not-found : goal.node-returns-then-not-found
node-returns-then-not-found t c = record {
  tree = node-ends _ _ _ c.args.t c.if-t-eq0.false c.enter-u.result c.enter-u.ensures _
      (comes _ _ _ _ _ c.requires _ c.settle_node-found.ensures) (not-true _ c.if-not-found.true);
  sum = entered-sum c.args.t c.enter-u.result c.if-t-eq0.false c.enter-u.ensures;
}

pub node-returns-then-found : goal.node-returns-then-found
node-returns-then-found t c = record {
  tree = node-offers _ _ _ c.args.t c.if-t-eq0.false c.enter-u.result c.enter-u.ensures _
      (comes _ _ _ _ _ c.requires _ c.settle_node-found.ensures) (not-false _ c.if-not-found.false) c.if-found.true c.offer.result c.offer.ensures;
  sum = offered-sum c.enter-u.result c.offer.result _ c.settle_node-found.result.node.column c.offer.ensures
      ∙ entered-sum c.args.t c.enter-u.result c.if-t-eq0.false c.enter-u.ensures;
}

pub node-returns-then-is_reached : goal.node-returns-then-is_reached
node-returns-then-is_reached t c = record {
  tree = node-reached _ _ _ c.args.t c.if-t-eq0.false c.enter-u.result c.enter-u.ensures _
      (comes _ _ _ _ _ c.requires _ c.settle_node-found.ensures) (not-false _ c.if-not-found.false) c.if-found.false _
      c.is_reached.ensures c.if-is_reached.true;
  sum = entered-sum c.args.t c.enter-u.result c.if-t-eq0.false c.enter-u.ensures;
}

pub node-branch-goal-requires : goal.node-branch-goal-requires
node-branch-goal-requires t c =
    let q = entered-sum c.args.t c.enter-u.result c.if-t-eq0.false c.enter-u.ensures in
    let x = c.settle_node-found.ensures in
    let l = (comes _ _ _ _ _ c.requires _ x).less in
    (omega (arith, l, c.decreases), can_branch _ _ _ _ _ c.requires _ x c.enter-u.result q (not-false _ c.if-not-found.false) c.if-found.false)

pub node-returns : goal.node-returns
node-returns t c = record {
  tree = node-branches _ _ _ c.args.t c.if-t-eq0.false c.enter-u.result c.enter-u.ensures _
      (comes _ _ _ _ _ c.requires _ c.settle_node-found.ensures) (not-false _ c.if-not-found.false) c.if-found.false _
      c.is_reached.ensures c.if-is_reached.false c.branch-goal.result c.branch-goal.ensures.tree;
  sum = c.branch-goal.ensures.sum ∙ entered-sum c.args.t c.enter-u.result c.if-t-eq0.false c.enter-u.ensures;
}
