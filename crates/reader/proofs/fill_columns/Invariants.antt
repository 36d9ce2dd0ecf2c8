use Rattle.dutyfile.specs.File.{cost_of, size_of}
use Rattle.reader.proofs.Filled.{Filling}
use Rattle.reader.proofs.fill_columns.Given as goal

abbrev pub invariant-loop-k : goal.invariant-loop-k
invariant-loop-k l = Filling cost_of l.file l.initial.costs l.columns l.costs l.k × Filling size_of l.file l.initial.lengths l.columns l.lengths l.k
