-- By the mark of the first, and then by that of the second.
use borrow.Author.Tests.{ne_eqb}
use native.Mathlib.Omega.{arith}
use lib.ListN.{get_or}
use Rattle.rules.specs.Pairs.{pair_asked}
use Rattle.pairs.proofs.pair_asks.Goals as goal

pub returns-in-1-b : goal.returns-in-1-b
unfolding pair_asked
returns-in-1-b c = rw (c.in-2.is, c.in-1-b.is)

pub returns-in-2-b : goal.returns-in-2-b
unfolding pair_asked
returns-in-2-b c = rw (c.in-2.is, c.in-2-b.is)

pub returns-in_default-b : goal.returns-in_default-b
unfolding pair_asked
returns-in_default-b c =
    let a = c.args in
    let b = get_or a.column.now a.second 0 in
    rw (c.in-2.is, ne_eqb b 1 (λ e. omega arith), ne_eqb b 2 (λ e. omega arith))

pub returns-in-1-b-2 : goal.returns-in-1-b-2
unfolding pair_asked
returns-in-1-b-2 c = rw (c.in-1.is, c.in-1-b-2.is)

pub returns-in-2-b-2 : goal.returns-in-2-b-2
unfolding pair_asked
returns-in-2-b-2 c = rw (c.in-1.is, c.in-2-b-2.is)

pub returns-in_default-b-2 : goal.returns-in_default-b-2
unfolding pair_asked
returns-in_default-b-2 c =
    let a = c.args in
    let b = get_or a.column.now a.second 0 in
    rw (c.in-1.is, ne_eqb b 1 (λ e. omega arith), ne_eqb b 2 (λ e. omega arith))

pub returns-in_default : goal.returns-in_default
unfolding pair_asked
returns-in_default c =
    let a = c.args in
    let b = get_or a.column.now a.first 0 in
    rw (ne_eqb b 2 (λ e. omega arith), ne_eqb b 1 (λ e. omega arith))
