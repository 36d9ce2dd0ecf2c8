use Rattle.dutyfile.specs.File.{shift}
use Rattle.raising.proofs.shift.Goals as goal

pub returns-in-Spp1 : goal.returns-in-Spp1
unfolding shift
returns-in-Spp1 c = rw c.in-Spp1.is

pub returns-in-Spp2 : goal.returns-in-Spp2
unfolding shift
returns-in-Spp2 c = rw c.in-Spp2.is
