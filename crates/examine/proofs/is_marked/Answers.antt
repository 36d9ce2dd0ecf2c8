use mathlib.Core.Path.{sym}
use Rattle.examine.proofs.is_marked.Goals as goal

pub returns-then-begins : goal.returns-then-begins
returns-then-begins c = rw (sym c.begins.ensures, c.if-begins.true)

pub returns-else-begins : goal.returns-else-begins
returns-else-begins c = rw (sym c.begins.ensures, c.if-begins.false) c.begins-else-begins.ensures
