-- The columns that are left, with the rows so far, come to what all of them come to.
use Rattle.std.specs.Iterator.Adapters.{zip_first, zip_second}
use Rattle.std.specs.Slice.Iter.{iter_rest}
use Rattle.refusals.specs.Refusals.{unless}
use Rattle.dutyfile.specs.File.{sum}
use Rattle.dutyfile.specs.Faults.{columns_fault}
use Rattle.writer.proofs.Columns.{Walking}
use Rattle.writer.proofs.check_columns.Given as goal

abbrev pub invariant-loop-cost : goal.invariant-loop-cost
invariant-loop-cost l =
    Walking l.edition l.rows (unless (columns_fault l.edition l.rows 0 l.costs l.lengths) (sum l.lengths)) l.total
    (iter_rest (zip_first l.cost-iterator)) (iter_rest (zip_second l.cost-iterator))
