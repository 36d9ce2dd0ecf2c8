-- No pair before the place at hand asks anything, so some pair does if one from there on does.
use native.Mathlib.Omega.{arith}
use mathlib.Core.Path.{ap}
use Rattle.pairs.specs.Asks.{asks}
use Rattle.pairs.proofs.Passing.{asks-some, both_in, both_low, looking_start, looking_found, looking_next, looking_end}
use Rattle.pairs.proofs.some_asks.Goals as goal
use Rattle.pairs.proofs.some_asks.Goals.{in-Nothing, in_default}

pub loop-first-init : goal.loop-first-init
loop-first-init c = looking_start _ _ _ c.as_chunks.ensures.front

pub overflow_sub-first : goal.overflow_sub-first
overflow_sub-first c = let b = both_in _ _ _ c.as_chunks.ensures.front c.requires _ c.loop-first-test.true in omega (arith, b.0.0, b.1.0)

pub overflow_sub-second : goal.overflow_sub-second
overflow_sub-second c = let b = both_in _ _ _ c.as_chunks.ensures.front c.requires _ c.loop-first-test.true in omega (arith, b.0.0, b.1.0)

pub pair_asks-asked-requires : goal.pair_asks-asked-requires
pair_asks-asked-requires c = let b = both_low _ _ _ c.as_chunks.ensures.front c.requires (omega arith) _ c.loop-first-test.true in (omega (arith, b.0, b.1), omega (arith, b.0, b.1))

pub returns-then-not-matches : goal.returns-then-not-matches
returns-then-not-matches c = elim c.match-matches.branch [
  | in-Nothing w ↦ absurd (cc)
  | in_default w ↦ looking_found _ _ _ _ c.loop-first.invariant c.loop-first-test.true _ c.pair_asks-asked.ensures (asks-some _ w.in_default.not-Nothing)
]

pub loop-first-preserved : goal.loop-first-preserved
loop-first-preserved c = elim c.match-matches.branch [
  | in-Nothing w ↦ looking_next _ _ _ _ c.loop-first.invariant c.loop-first-test.true _ c.pair_asks-asked.ensures (ap asks w.in-Nothing.is)
  | in_default w ↦ absurd (cc)
]

pub returns : goal.returns
returns c = looking_end _ _ _ _ c.loop-first.invariant c.loop-first-test.false
