-- Each line is shown in turn.
use native.Mathlib.Omega.{arith}
use Rattle.search_files.proofs.show_lines.Goals as goal

pub loop-at-smaller : goal.loop-at-smaller
loop-at-smaller c = omega (arith, c.find-limit.ensures.lower_bound.0, c.find-limit.ensures.lower_bound.1, c.find-text.ensures.lower_bound.0, c.find-text.ensures.lower_bound.1, c.find-end.ensures.lower_bound.0, c.loop-at-test.true)
