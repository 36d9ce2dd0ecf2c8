-- The statistics of the part of the entries that is the row.
use mathlib.Core.Path.{◌∙◌}
use Rattle.node.specs.Stored.{matrix_in}
use Rattle.candidates.proofs.Candidate.{row_listed, candidate-is}
use Rattle.candidates.proofs.row_candidate.Goals as goal

pub statistics-requires : goal.statistics-requires
statistics-requires c = row_listed _ c.requires.kept _ _ c.row_part.ensures

pub returns : goal.returns
returns c = c.statistics.ensures ∙ candidate-is (matrix_in _) _ _ _ _ c.row_part.ensures
