use mathlib.Core.Path.{sym}
use Rattle.dutyfile.specs.File.{edition_in}
use Rattle.dutyfile.proofs.edition_in.Goals as goal

pub returns-then-begins : goal.returns-then-begins
unfolding edition_in
returns-then-begins c = rw (sym c.begins.ensures, c.if-begins.true)

pub returns : goal.returns
unfolding edition_in
returns c = rw (sym c.begins.ensures, c.if-begins.false)
