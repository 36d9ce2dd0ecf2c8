-- A list of steps from an empty desk over one file, and what the plan check says of the columns that are then in (02, P7).
use Rattle.std.specs.Prelude.{◌≡◌, Bool, true, false, cond, List, [], ◌∷◌, map, ℕ, suc, eqb, ℤ, Option, Some, None}
use Rattle.refusals.specs.Refusals.{Outcome, accepted}
use Rattle.node.specs.Lists.{keep, upto}
use Rattle.dutyfile.specs.File.{columns_in}
use Rattle.verify.specs.declared.Verdict.{Verdict}
use Rattle.verify.specs.declared.Verdict.TheVariants.{Plan}
use Rattle.verify.specs.Verdict.{checking}
use Rattle.desk.specs.declared.Way.{Way}
use Rattle.desk.specs.declared.Way.TheVariants.{Adding, Removing}
use Rattle.desk.specs.Desk.{Desk, replying}
use Rattle.desk.specs.Steps.{stepped, emptied}

-- what a step does, and the number of its column, in range or not
pub record Step : Type 0 where
  pub way : Way
  pub number : ℕ

-- the desk after a list of steps over a file, each by its contract: changed, unchanged or refused
unfoldable pub run : List ℕ → List Step → Desk → Desk
run file [] d = d
run file (v ∷ vs) d = run file vs (stepped v.way file v.number d)

-- whether a column is in after a list of steps: the last step that names it says so
unfoldable pub puts : Way → Bool
puts Adding = true
puts Removing = false

abbrev pub turned : Step → (ℕ → Bool) → ℕ → Bool
turned v X j = cond (eqb (suc j) v.number) (puts v.way) (X j)

unfoldable pub in_after : List Step → (ℕ → Bool) → ℕ → Bool
in_after [] X = X
in_after (v ∷ vs) X = in_after vs (turned v X)

-- the columns of a file that are in after a list of steps from an empty desk, numbered from 1 and rising
unfoldable pub columns_after : List ℕ → List Step → List ℕ
columns_after file vs = map suc (keep (in_after vs (λ j. false)) (upto (columns_in file)))

-- the reply of a desk
abbrev pub reply_of : Desk → Option ℤ
reply_of d = replying d.counts.off d.total

-- a reply is a plan with its cost exactly when the check gives that plan and cost, else no plan
pub record Agrees (reply : Option ℤ) (check : Outcome Verdict) : Type 0 where
  pub told : (z : ℤ) → reply ≡ Some z → check ≡ accepted (Plan z)
  pub tells : (z : ℤ) → check ≡ accepted (Plan z) → reply ≡ Some z
  pub otherwise : ((z : ℤ) → check ≡ accepted (Plan z) → ⊥) → reply ≡ None

-- 02's claim, of a file, a desk made empty over it, and a list of steps
abbrev pub Running : List ℕ → Desk → List Step → Type 0
Running file d vs = Agrees (reply_of (run file vs (emptied file d))) (checking file (columns_after file vs))
