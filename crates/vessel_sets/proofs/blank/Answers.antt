-- A table of zeros has its length, and no place above none.
use Rattle.vessel_sets.proofs.Filling.{zeros}
use Rattle.vessel_sets.proofs.blank.Goals as goal

pub returns : goal.returns
returns c = zeros 65536
