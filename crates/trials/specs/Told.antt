-- What a desk reads of a finding (02, P6): a statement for each, with a field for each sentence. A set of duties is any choice, a function
-- from columns to Bool.
use Rattle.std.specs.Prelude.{◌≡◌, Bool, true, List, ℕ, ◌-◌, ◌≤◌, ◌<◌}
use Rattle.node.specs.Matrix.{Matrix, width, count, IsPlan, named}
use Rattle.rules.specs.Search.{nothing, plan, shown_by, is_stopped}
use Rattle.dutyfile.specs.File.{Lists, instance}
use Rattle.dutyfile.specs.Faults.{rising}
use Rattle.trials.specs.Trials.{trial, Finding, no_crew, plan_exists, stopped_at}

-- columns that share no row, and cover each of the first k rows
pub record CoversFirst (p : Matrix) (k : ℕ) (X : ℕ → Bool) : Type 0 where
  pub apart : (i : ℕ) → i < p.rows → count p i X ≤ 1
  pub covered : (i : ℕ) → i < k → 1 ≤ count p i X

-- trial h is covered
pub record Covered (d : Lists) (limit h : ℕ) : Type 0 where
  pub cost : ℕ
  pub columns : List ℕ
  pub shows : shown_by (trial d limit h) ≡ plan cost columns

-- With k, a sailing of the file,
pub record NoCrew (p : Matrix) (k : ℕ) (js : List ℕ) : Type 0 where
  pub row : (1 ≤ k) × (k ≤ p.rows)
  -- no set of duties, sharing no sailing, covers sailings 1 to k;
  pub none : (X : ℕ → Bool) → CoversFirst p k X → ⊥
  -- the duties shown, which rise, do so for 1 to k - 1;
  pub rise : rising 0 (width p) js ≡ true
  pub shown : CoversFirst p (k - 1) (named js)
  -- and k is the smallest such number.
  pub smallest : (h : ℕ) → h < k → (X : ℕ → Bool) × CoversFirst p h X

-- Stopped at k, a sailing of the file:
pub record StoppedAt (d : Lists) (limit k : ℕ) : Type 0 where
  pub row : (1 ≤ k) × (k ≤ d.rows)
  -- trial k was stopped without a plan,
  pub stopped : is_stopped (trial d limit k) ≡ true
  pub bare : shown_by (trial d limit k) ≡ nothing
  -- and every trial below k was covered, so there are duties for each of these numbers.
  pub below : (h : ℕ) → 1 ≤ h → h < k → Covered d limit h
  pub crewed : (h : ℕ) → h < k → (X : ℕ → Bool) × CoversFirst (instance d).matrix h X

-- With "a plan exists" there is a plan.
unfoldable pub Told : Lists → ℕ → Finding → Type 0
Told d limit (no_crew k js) = NoCrew (instance d).matrix k js
Told d limit plan_exists = (X : ℕ → Bool) × IsPlan (instance d).matrix X
Told d limit (stopped_at k) = StoppedAt d limit k
