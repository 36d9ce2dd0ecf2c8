-- The criteria of reducing change neither none nor the price of best (02, P4): two searches of a file that passes its tests, with the same
-- lists, by any two comparisons of candidates and within any two node limits, are alike. So the search is alike with the one before P4.
use mathlib.Core.Path.{◌≡◌}
use mathlib.Core.List.{List}
use Prim.Native.Nat.{ℕ}
use Rattle.refusals.specs.Refusals.{fine}
use Rattle.refusals.proofs.Laws.{both}
use Rattle.node.specs.Matrix.{Matrix}
use Rattle.rules.specs.Reduce.{Comparison, precedes, formerly_precedes}
use Rattle.rules.specs.Requests.{Requests}
use Rattle.rules.specs.Comparisons.{answer_by, Alike}
use Rattle.rules.proofs.Comparisons.{comparisons_alike}
use Rattle.dutyfile.specs.File.{parse, instance, shape}
use Rattle.dutyfile.proofs.Facts.{Accepted, file-fine}
use Rattle.matrix.proofs.Accepted.{file-small, file-wide}
use Rattle.search.specs.Requests.{call_fault_with, fault_with, answer_with}
use Rattle.search.proofs.Listed.{listed}

-- a call that passes its tests, and a further node limit
module _ (file : List ℕ) (q : Requests) (limit places : ℕ) (h : fault_with file limit q places ≡ fine) (further : ℕ) where
  abbrev m : Matrix
  m = (instance (parse file)).matrix

  abbrev costs : List ℕ
  costs = (instance (parse file)).costs

  pub any_alike : (before other : Comparison)
      → Alike m costs q before other (answer_by before m costs q limit) (answer_by other m costs q further)
  unfolding call_fault_with fault_with shape instance
  any_alike before other =
      let b = both _ _ h in
      let a : Accepted file = file-fine file b.0 in
      comparisons_alike before other m (file-small file a).fits costs q (listed m (shape file) q (file-wide file a) (both _ _ b.1).1)
      limit further

  -- the search call's answer as it is, and as it was
  pub amended_alike : Alike m costs q precedes formerly_precedes (answer_with file limit q) (answer_by formerly_precedes m costs q further)
  unfolding answer_with
  amended_alike = any_alike precedes formerly_precedes
