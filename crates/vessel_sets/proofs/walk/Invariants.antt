-- The vessels that are left to write give the whole list.
use Rattle.vessel_sets.proofs.Walking.{Walking}
use Rattle.vessel_sets.proofs.walk.Given as goal

abbrev pub invariant-loop-crew : goal.invariant-loop-crew
invariant-loop-crew l = Walking l.table l.crews l.vessels l.least l.initial.answer l.answer l.s l.crew
