-- The first criterion in which the candidates differ decides. x holds the candidates.
use Rattle.criteria.proofs.Criteria.{by-free, by_ties, by-cost, by-short, by_row, by-none}
use Rattle.criteria.proofs.comes_before.Goals as goal

pub returns-then-a-b : goal.returns-then-a-b
returns-then-a-b c =
    let x = c.args in
    by-free x.a x.b c.if-a-b.true

pub returns-then-a-b-2 : goal.returns-then-a-b-2
returns-then-a-b-2 c =
    let x = c.args in
    by_ties x.a x.b c.if-a-b.false c.if-a-b-2.true

pub returns-then-a-b-3 : goal.returns-then-a-b-3
returns-then-a-b-3 c =
    let x = c.args in
    by-cost x.a x.b c.if-a-b.false c.if-a-b-2.false c.if-a-b-3.true

pub returns-then-a-b-4 : goal.returns-then-a-b-4
returns-then-a-b-4 c =
    let x = c.args in
    by-short x.a x.b c.if-a-b.false c.if-a-b-2.false c.if-a-b-3.false c.if-a-b-4.true

pub returns-then-a-b-5 : goal.returns-then-a-b-5
returns-then-a-b-5 c =
    let x = c.args in
    by_row x.a x.b c.if-a-b.false c.if-a-b-2.false c.if-a-b-3.false c.if-a-b-4.false

pub returns : goal.returns
returns c =
    let x = c.args in
    by-none x.a x.b c.if-a-b.false c.if-a-b-2.false c.if-a-b-3.false c.if-a-b-4.false c.if-a-b-5.false
