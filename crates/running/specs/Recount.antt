-- The recount: what the columns of a choice come to, and a desk that has these numbers.
use Rattle.std.specs.Prelude.{◌≡◌, Bool, true, not, List, ℕ, ◌≤◌, ◌<◌, eqb, ℤ, pos, length, get_or}
use Rattle.std.specs.Int.Signed.{mag}
use Rattle.node.specs.Lists.{on, total}
use Rattle.node.specs.Matrix.{Matrix, width, body, count, signed_price}
use Rattle.dutyfile.specs.Faults.{rising}
use Rattle.desk.specs.Desk.{Desk}

-- how many of m rows are not covered exactly once, where `covered` says how often each is
abbrev pub off_in : ℕ → (ℕ → ℕ) → ℕ
off_in m covered = total m (λ i. on (not (eqb (covered i) 1)) 1)

-- what the tests of a file say of its matrix and costs
pub record Bounded (p : Matrix) (costs : List ℤ) : Type 0 where
  pub wide : width p ≤ 256
  pub tall : p.rows ≤ 64
  pub rises : (j : ℕ) → rising 0 p.rows (body p j) ≡ true
  pub cheap : (j : ℕ) → j < width p → mag (get_or costs j (pos 0)) ≤ 1000000

-- the desk's numbers are those of the choice
pub record Recount (p : Matrix) (costs : List ℤ) (X : ℕ → Bool) (d : Desk) : Type 0 where
  pub marks : (j : ℕ) → j < width p → not (eqb (get_or d.marks j 0) 0) ≡ X j
  pub covered : (i : ℕ) → i < p.rows → get_or d.counts.covered i 0 ≡ count p i X
  pub off : d.counts.off ≡ off_in p.rows (λ i. count p i X)
  pub total : d.total ≡ signed_price p costs X
  pub marked : length d.marks ≡ 256
  pub counted : length d.counts.covered ≡ 64
