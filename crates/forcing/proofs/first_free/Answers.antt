-- None of the columns before is free, so the first that is free among those left is the first of all.
use mathlib.Core.Path.{ap}
use native.Mathlib.Omega.{arith}
use borrow.Author.Tests.{eq-eqb, ne_eqb}
use Rattle.node.specs.Lists.{first}
use Rattle.node.proofs.Passes.{seeking_start, seeking_in, seeking_out, seeking_end}
use Rattle.forcing.proofs.first_free.Goals as goal

pub loop-j-init : goal.loop-j-init
loop-j-init c = seeking_start _ _

pub overflow_cast-found : goal.overflow_cast-found
overflow_cast-found c = omega (arith, c.type_inv.columns c.loop-j.j-index)

pub bounds-column-found : goal.bounds-column-found
bounds-column-found c = c.requires _ c.loop-j-test.true

pub returns-then-column-found-eq1 : goal.returns-then-column-found-eq1
unfolding first
returns-then-column-found-eq1 c = ap first (seeking_in _ _ _ c.loop-j.invariant c.loop-j-test.true (eq-eqb _ 1 c.if-column-found-eq1.true))

pub loop-j-preserved : goal.loop-j-preserved
loop-j-preserved c = seeking_out _ _ _ c.loop-j.invariant c.loop-j-test.true (ne_eqb _ 1 c.if-column-found-eq1.false)

pub returns : goal.returns
unfolding first
returns c = ap first (seeking_end _ _ _ c.loop-j.invariant c.loop-j-test.false)
