-- The program's line is that of a search with the program's node limit and places.
use Rattle.report.specs.Program.{program_line}
use Rattle.report.proofs.program_line.Goals as goal

pub returns : goal.returns
unfolding program_line
returns c = record { upper_bound = c.search_line.ensures.upper_bound; value = c.search_line.ensures.value; out_after = c.search_line.ensures.out_after }
