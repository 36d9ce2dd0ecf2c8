-- From each place passed the first place of the byte is the same.
use mathlib.Core.Path.{◌≡◌}
use Rattle.hexadecimal.specs.Text.{place_of}
use Rattle.hexadecimal.proofs.find.Given as goal

abbrev pub invariant-loop-i : goal.invariant-loop-i
invariant-loop-i l = place_of l.s l.i l.b ≡ place_of l.s l.fn.from l.b
