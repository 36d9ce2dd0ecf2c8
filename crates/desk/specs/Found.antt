-- The column of a step, as it is found in a file.
use Rattle.std.specs.Prelude.{◌≡◌, List, ℕ, ◌-◌, drop}
use Rattle.refusals.specs.Refusals.{fine}
use Rattle.dutyfile.specs.declared.Entry.{Entry}
use Rattle.dutyfile.specs.File.{bodies_at, entry_of}
use Rattle.desk.specs.Steps.{step_fault}

-- an entry is that of the column with this number, and the tests pass
pub record Found (file : List ℕ) (number : ℕ) (e : Entry) : Type 0 where
  pub passes : step_fault file number ≡ fine
  pub entry : e ≡ entry_of (drop (bodies_at (number - 1)) file)
