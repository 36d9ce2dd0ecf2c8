-- The plan check (01, The program and the plan check): what it answers for a file and an offered list of columns.
use Rattle.std.specs.Prelude.{ℕ, zero, suc, Bool, cond, List, ℤ, ◌==◌}
use Rattle.node.specs.Matrix.{Matrix, count, signed_price, named}
use Rattle.refusals.specs.Refusals.{ask, ◌then◌, Outcome, unless}
use Rattle.dutyfile.specs.File.{columns_in, parse, instance}
use Rattle.dutyfile.specs.Faults.{rising, file_fault}
use Rattle.verify.specs.declared.Verdict.{Verdict}
use Rattle.verify.specs.declared.Verdict.TheVariants.{Plan, NotOnce}

-- the lowest of m rows from row i on that is not covered exactly once, where `covered` says how often each is
unfoldable pub lowest : (ℕ → ℕ) → ℤ → ℕ → ℕ → Verdict
lowest covered cost zero i = Plan cost
lowest covered cost (suc m) i = cond (covered i == 1) (lowest covered cost m (suc i)) (NotOnce (suc i) (covered i))

-- what a choice of columns comes to
unfoldable pub verdict : Matrix → List ℤ → (ℕ → Bool) → Verdict
verdict p costs X = lowest (λ i. count p i X) (signed_price p costs X) p.rows 0

-- 1 to 9 for the file, then 12: the offered columns rise from 1 to n
unfoldable pub checking : List ℕ → List ℕ → Outcome Verdict
checking s js = unless (file_fault s then ask (rising 0 (columns_in s) js) 12) (verdict (instance (parse s)).matrix (parse s).costs (named js))
