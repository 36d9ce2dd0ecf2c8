-- What a verdict means: a plan exactly where each row is covered once, and otherwise the lowest row that is not.
use Rattle.std.proofs.Common.{◌≡◌, ℕ, zero, suc, ◌+◌, ◌<◌, ◌≤◌, Bool, true, false, cond, eqb, List, ℤ, sym, refl, ap, ◌∙◌, arith, eqb-true}
use borrow.Author.Tests.{eqb-false}
use Rattle.node.specs.Matrix.{Matrix, count, IsPlan, signed_price}
use Rattle.verify.specs.declared.Verdict.{Verdict}
use Rattle.verify.specs.declared.Verdict.TheVariants.{Plan, NotOnce}
use Rattle.verify.specs.Verdict.{lowest, verdict}

-- of m rows from row i on, row r is the lowest that is not covered once, and it is covered k times
pub record Lowest (covered : ℕ → ℕ) (m i r k : ℕ) : Type 0 where
  pub from : i ≤ r
  pub within : r < m + i
  pub times : covered r ≡ k
  pub off : k ≡ 1 → ⊥
  pub before : (j : ℕ) → i ≤ j → j < r → covered j ≡ 1

-- what a verdict says of the rows and of the cost
pub Says : (ℕ → ℕ) → ℤ → ℕ → ℕ → Verdict → Type 0
Says covered cost m i (Plan c) = ((k : ℕ) → i ≤ k → k < m + i → covered k ≡ 1) × (cost ≡ c)
Says covered cost m i (NotOnce r k) = (q : ℕ) × (r ≡ suc q) × Lowest covered m i q k

module _ (covered : ℕ → ℕ) (cost : ℤ) where
  -- row i is covered once, and v is said of the rows after it
  says_more : (m i : ℕ) → covered i ≡ 1 → (v : Verdict) → Says covered cost m (suc i) v → Says covered cost (suc m) i v
  unfolding Says
  says_more m i e (Plan c) s = (λ k l h. either k l h (eqb k i) refl, s.1)
    where
      either : (k : ℕ) → i ≤ k → k < suc m + i → (t : Bool) → eqb k i ≡ t → covered k ≡ 1
      either k l h true q = rw (eqb-true k i q) e
      either k l h false q = s.0 k (below k l (eqb-false k i q)) (omega arith)
        where
          below : (k : ℕ) → i ≤ k → (k ≡ i → ⊥) → suc i ≤ k
          below k l n = omega arith
  says_more m i e (NotOnce r k) s =
      let d = s.2 in (
        s.0,
        s.1,
        record {
          from = omega (arith, d.from);
          within = omega (arith, d.within);
          times = d.times;
          off = d.off;
          before = λ j l h. either j l h (eqb j i) refl;
        },
      )
    where
      either : (j : ℕ) → i ≤ j → j < s.0 → (t : Bool) → eqb j i ≡ t → covered j ≡ 1
      either j l h true q = rw (eqb-true j i q) e
      either j l h false q = s.2.before j (omega (arith, eqb-false j i q)) h

  lowest_says : (m i : ℕ) → Says covered cost m i (lowest covered cost m i)
  unfolding lowest Says
  lowest_says zero i = (λ k l h. absurd (omega arith), refl)
  lowest_says (suc m) i = go (eqb (covered i) 1) refl (lowest_says m (suc i))
    where
      go : (t : Bool) → eqb (covered i) 1 ≡ t → Says covered cost m (suc i) (lowest covered cost m (suc i)) →
          Says covered cost (suc m) i (cond t (lowest covered cost m (suc i)) (NotOnce (suc i) (covered i)))
      go true e s = says_more m i (eqb-true _ _ e) (lowest covered cost m (suc i)) s
      go false e s = (i, refl, record { from = omega arith; within = omega arith; times = refl; off = eqb-false _ _ e; before = λ j l h. absurd (omega arith) })

-- A verdict on a choice of columns: it is a plan at its price, or its lowest row that is not covered exactly once is told.
pub record PlanAt (p : Matrix) (costs : List ℤ) (X : ℕ → Bool) (c : ℤ) : Type 0 where
  pub covers : IsPlan p X
  pub priced : signed_price p costs X ≡ c

pub verdict-plan : (p : Matrix) (costs : List ℤ) (X : ℕ → Bool) (c : ℤ) → verdict p costs X ≡ Plan c → PlanAt p costs X c
unfolding verdict Says
verdict-plan p costs X c e =
    let s = rw e at (lowest_says (λ i. count p i X) (signed_price p costs X) p.rows 0) in
    record { covers = λ i h. s.0 i (omega arith) (omega arith); priced = s.1 }

pub verdict-not-once : (p : Matrix) (costs : List ℤ) (X : ℕ → Bool) (r k : ℕ) → verdict p costs X ≡ NotOnce r k → (q : ℕ) × (r ≡ suc q) × Lowest (λ i. count p i X) p.rows 0 q k
unfolding verdict Says
verdict-not-once p costs X r k e = rw e at (lowest_says (λ i. count p i X) (signed_price p costs X) p.rows 0)

pub plan-verdict : (p : Matrix) (costs : List ℤ) (X : ℕ → Bool) → IsPlan p X → verdict p costs X ≡ Plan (signed_price p costs X)
plan-verdict p costs X h = go (verdict p costs X) refl
  where
    go : (v : Verdict) → verdict p costs X ≡ v → verdict p costs X ≡ Plan (signed_price p costs X)
    go (Plan c) e = e ∙ ap Plan (sym (verdict-plan p costs X c e).priced)
    go (NotOnce r k) e =
        let d = verdict-not-once p costs X r k e in
        absurd (d.2.off (sym d.2.times ∙ h d.0 (omega (arith, d.2.within))))
