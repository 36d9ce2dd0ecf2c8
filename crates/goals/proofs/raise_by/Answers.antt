-- What was read gives the least cost of the free ones among it; a column that costs no more than the bound decides.
use mathlib.Core.Path.{ap, ◌∙◌}
use mathlib.Core.Bool.{Bool}
use mathlib.Core.List.{List}
use Prim.Native.Nat.{ℕ, max}
use borrow.Author.Rules.{rules}
use lib.ListN.{get_or}
use lib.Dec.{eqb}
use borrow.Author.Tests.{eq-eqb, ne_eqb}
use Rattle.node.specs.Lists.{least, is_empty}
use Rattle.node.proofs.Passes.{telling_start, telling_in, telling_out, telling_end}
use Rattle.std.proofs.Common.{unwrap_or}
use Rattle.goals.proofs.Raising.{told, more, more_is, told_more, told_least, raise_ends}
use Rattle.goals.proofs.raise_by.Goals as goal
use Rattle.goals.proofs.raise_by.Goals.{then-column-j-eq1+else-next-bound, else-column-j-eq1}

abbrev free : List ℕ → ℕ → Bool
free column j = eqb (get_or column j 0) 1

abbrev cost_of_lem : List ℕ → ℕ → ℕ
cost_of_lem cost j = get_or cost j 0

pub loop-j-init : goal.loop-j-init
unfolding is_empty least
loop-j-init c = telling_start (told (cost_of_lem c.args.cost.now)) _ _

pub returns-then-next-bound : goal.returns-then-next-bound
returns-then-next-bound c =
    let a = c.args in
    raise_ends a.cost.now a.column.now a.columns.now _ _ c.loop-j-test.true c.if-column-j-eq1.true c.if-next-bound.true

pub loop-j-preserved : goal.loop-j-preserved
loop-j-preserved c =
    let f = cost_of_lem c.args.cost.now in
    elim c.if-column-j-eq1.branch [
      | then-column-j-eq1+else-next-bound w ↦
          rw w.least-is
          (telling_in _ _ _ _ _ c.loop-j.invariant c.loop-j-test.true (more f) (told_more f) (eq-eqb _ 1 w.if-column-j-eq1.true) _
          (more_is f _ _ _ (search rules)))
      | else-column-j-eq1 w ↦
          rw w.least-is (telling_out _ _ _ _ _ c.loop-j.invariant c.loop-j-test.true (ne_eqb _ 1 w.if-column-j-eq1.false))
    ]

pub returns : goal.returns
returns c =
    let f = cost_of_lem c.args.cost.now in
    let b = c.args.bound in
    c.max.ensures
    ∙ ap (max b) (c.unwrap_or.ensures ∙ ap (λ a. unwrap_or a 0) (telling_end _ _ _ _ _ c.loop-j.invariant c.loop-j-test.false) ∙ told_least f _)
