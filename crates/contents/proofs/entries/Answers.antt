use native.Mathlib.Omega.{arith}
use borrow.Author.Rules.{rules}
use mathlib.Core.Path.{ap}
use Rattle.contents.proofs.Table.{walking_start, few, inside, walking_next, walking_end}
use Rattle.contents.proofs.entries.Goals as goal

pub loop-reader-init : goal.loop-reader-init
loop-reader-init c = walking_start _ _ c.requires.0 c.requires.1 _ _ _ (ap (λ r. r.now) c.new-reader.ensures.0) c.new-reader.ensures.1 (search rules)

pub entry-requires : goal.entry-requires
entry-requires c = inside _ _ c.requires.0 c.requires.1 _ _ _ c.loop-reader.invariant c.loop-reader-test.true

pub bounds-table-reader : goal.bounds-table-reader
bounds-table-reader c = omega (arith, few _ _ c.requires.0 c.requires.1)

pub advanced-reader-requires : goal.advanced-reader-requires
advanced-reader-requires c = omega (arith, few _ _ c.requires.0 c.requires.1)

pub loop-reader-preserved : goal.loop-reader-preserved
loop-reader-preserved c =
    walking_next _ _ c.requires.0 c.requires.1 _ _ _ c.loop-reader.invariant c.loop-reader-test.true _ c.entry.ensures _ _
    (ap (λ r. r.now) c.advanced-reader.ensures.0) c.advanced-reader.ensures.1

pub returns : goal.returns
returns c = walking_end _ _ c.requires.0 c.requires.1 _ _ _ c.loop-reader.invariant c.loop-reader-test.false
