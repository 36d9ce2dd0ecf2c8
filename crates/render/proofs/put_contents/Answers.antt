use mathlib.Core.Path.{refl, sym}
use Rattle.std.proofs.lemmas.Iterator.{empty_from_Zip}
use Rattle.std.proofs.Common.{rules, w32, SFits, to_z-of_z}
use native.Mathlib.Omega.{arith}
use Rattle.render.proofs.Puts.{putting_start, putting_ends, putting_next, putting_end}
use Rattle.render.proofs.put_contents.Goals as goal

pub loop-k-init : goal.loop-k-init
loop-k-init c =
    putting_start _ _ _ c.requires.costs_len_bound.0 c.requires.costs_len_bound.1 c.requires.lengths_bound c.requires.costs_in_bounds
    _ _ _ (search rules) (search rules) (search rules)

pub overflow_cast-start : goal.overflow_cast-start
overflow_cast-start c =
    let i = c.in-Some.ensures.steps in
    omega (arith, putting_ends c.loop-k.invariant i.0.0 i.0.1)

pub overflow_add-start-in-loop-k : goal.overflow_add-start-in-loop-k
overflow_add-start-in-loop-k c =
    let i = c.in-Some.ensures.steps in
    omega (arith, c.from-start.ensures, putting_ends c.loop-k.invariant i.0.0 i.0.1)

pub loop-k-preserved : goal.loop-k-preserved
loop-k-preserved c =
    let i = c.in-Some.ensures.steps in
    let fits : SFits w32 c.in-Some.field-0-1-0.now = search rules in
    rw (c.from-start.ensures, i.2) (putting_next c.loop-k.invariant i.0.0 i.0.1 _ (rw (i.1, to_z-of_z fits) at c.put_entry.ensures))

pub returns : goal.returns
returns c =
    let i = c.in-None.ensures.steps in
    putting_end c.loop-k.invariant (empty_from_Zip _ c.next.new.self.iter _ refl i.0 (sym c.loop-k.invariant.same)).0
