-- The walk over the columns: those that are left, with the rows so far, come to what all of them come to.
use mathlib.Core.Path.{◌≡◌, ap, sym, ◌∙◌}
use mathlib.Core.List.{List, [], ◌∷◌}
use Prim.Native.Nat.{ℕ, ◌+◌, ◌≤◌}
use native.Mathlib.Nat.{add_assoc, add-zero, zero-add}
use native.Mathlib.Omega.{arith}
use lib.IntN.{ℤ}
use lib.ListN.{length}
use Rattle.refusals.specs.Refusals.{fine, fault, Outcome, accepted, refused, unless}
use Rattle.refusals.proofs.Laws.{outcome_stops, outcome_goes_on}
use Rattle.dutyfile.specs.declared.Edition.{Edition}
use Rattle.dutyfile.specs.File.{sum}
use Rattle.dutyfile.specs.Faults.{column_fault, columns_fault}
use Rattle.dutyfile.proofs.Facts.{column-fine}

-- what columns come to, after columns with t rows
unfoldable pub walk : Edition → ℕ → ℕ → List ℤ → List ℕ → Outcome ℕ
walk ed m t cs ls = unless (columns_fault ed m t cs ls) (t + sum ls)

-- with the columns that are left, after columns with t rows
pub record Walking (edition : Edition) (rows : ℕ) (whole : Outcome ℕ) (total : ℕ) (costs : List ℤ) (lengths : List ℕ) : Type 0 where
  pub same : length lengths ≡ length costs
  pub small : total ≤ 4096
  pub left : walk edition rows total costs lengths ≡ whole

module _ (ed : Edition) (m : ℕ) where
  pub walking_start : (costs cs : List ℤ) (lengths ls : List ℕ) → length lengths ≡ length costs → cs ≡ costs → ls ≡ lengths →
      Walking ed m (unless (columns_fault ed m 0 costs lengths) (sum lengths)) 0 cs ls
  unfolding walk
  walking_start costs cs lengths ls h e f = rw (e, f) (record { same = h; small = omega arith; left = rw zero-add })

  module _ {whole : Outcome ℕ} {t : ℕ} {costs : List ℤ} {lengths : List ℕ} (w : Walking ed m whole t costs lengths) where
    module _ {c : ℤ} {l : ℕ} {cs : List ℤ} {ls : List ℕ} (e : costs ≡ c ∷ cs) (f : lengths ≡ l ∷ ls) where
      pub walking_stop : (k : ℕ) → column_fault ed m t c l ≡ fault k → refused k ≡ whole
      unfolding walk columns_fault
      walking_stop k h = sym (outcome_stops _ _ k h) ∙ (rw (e, f) at w.left)

      pub walking_next : column_fault ed m t c l ≡ fine → Walking ed m whole (t + l) cs ls
      unfolding walk columns_fault sum
      walking_next h = record {
        same = omega (arith, w.same, ap length e, ap length f);
        small = (column-fine ed m t c l h).total;
        left = rw add_assoc (sym (outcome_goes_on _ _ h) ∙ (rw (e, f) at w.left));
      }

    pub walking_end : costs ≡ [] → lengths ≡ [] → accepted t ≡ whole
    unfolding walk columns_fault sum unless
    walking_end e f = rw (e, f, add-zero) at w.left
