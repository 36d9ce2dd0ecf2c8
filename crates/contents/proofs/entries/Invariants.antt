-- The entries in the table so far, with those that are left, are all of them.
use Prim.Native.Nat.{◌-◌}
use Rattle.contents.proofs.Table.{Walking}
use Rattle.contents.proofs.entries.Given as goal

abbrev pub invariant-loop-reader : goal.invariant-loop-reader
invariant-loop-reader l = Walking l.file l.columns l.reader.file.now l.reader.next l.table

abbrev pub decreases-loop-reader : goal.decreases-loop-reader
decreases-loop-reader l = l.columns - l.reader.next
