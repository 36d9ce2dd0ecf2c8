-- The entries that are left, with the rows so far, come to what the whole contents come to.
use Rattle.examine.proofs.Entries.{Walking}
use Rattle.examine.proofs.check_contents.Given as goal

abbrev pub invariant-loop-j : goal.invariant-loop-j
invariant-loop-j l = Walking l.file l.edition l.rows l.columns l.total l.j
