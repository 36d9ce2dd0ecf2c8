-- What is left to test, from the last number that was tested on, decides as the whole list does.
use mathlib.Core.Path.{◌≡◌}
use mathlib.Core.List.{map}
use lib.ListN.{drop}
use Rattle.dutyfile.specs.Faults.{rising}
use Rattle.dutyfile.proofs.rises.Given as goal

abbrev pub invariant-loop-number : goal.invariant-loop-number
invariant-loop-number g l = rising l.last l.most (drop l.number-index (map g.T.Numbered.value l.numbers)) ≡ rising 0 l.most (map g.T.Numbered.value l.numbers)
