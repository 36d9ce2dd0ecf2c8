-- The sets from s on are done.
use Rattle.vessel_sets.proofs.Filling.{Filling}
use Rattle.vessel_sets.proofs.fill.Given as goal

abbrev pub invariant-loop-s : goal.invariant-loop-s
invariant-loop-s l = Filling l.table l.crews l.vessels l.least l.s
