-- The reader fills the lists.
use Rattle.lists.proofs.Read.{file_alone}
use Rattle.lists.proofs.read_lists.Goals as goal

pub returns : goal.returns
returns c = record {
  result_value = file_alone _ _ _ _ _ c.requires c.read.ensures.result_value;
  costs_after = c.read.ensures.costs_after;
  lengths_after = c.read.ensures.lengths_after;
  numbers_after = c.read.ensures.rows_after;
}
