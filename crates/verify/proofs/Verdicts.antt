-- The verdict: the rows that are left to look at give what all of them give; the counts and the cost that the code has are those of the
-- choice that is named; and a verdict says what it should of a choice.
use Rattle.std.proofs.Common.{◌≡◌, ℕ, zero, suc, ◌+◌, ◌-◌, ◌<◌, ◌≤◌, true, false, List, get_or, ℤ, sym, refl, ◌∙◌, add-one, arith, eq-eqb, ne_eqb}
use Rattle.refusals.specs.Refusals.{fine, accepted, refused, unless}
use Rattle.refusals.proofs.Laws.{stops_at, goes_on, passes, fails, unless-fine, unless-fault, refuses}
use Rattle.node.specs.Lists.{on}
use Rattle.node.specs.Matrix.{covers, count, named}
use Rattle.dutyfile.specs.File.{rows_in, columns_in, parse, instance, shape}
use Rattle.dutyfile.specs.Faults.{rising, file_fault}
use Rattle.dutyfile.proofs.Columns.{file-width, body-rises}
use Rattle.verify.specs.Counts.{none_covered, counted_all}
use Rattle.verify.specs.declared.Verdict.TheVariants.{Plan, NotOnce}
use Rattle.verify.specs.Verdict.{lowest, verdict, checking}
use Rattle.verify.proofs.Sums.{tally-total}
use Rattle.verify.proofs.Counting.{counted_all_at}
use Rattle.verify.proofs.Walk.{file_matrix, offered_price, Offered, none-at}

-- row by row
module _ (covered : ℕ → ℕ) (cost : ℤ) (m i : ℕ) (inside : i < m) where
  more : m - i ≡ suc (m - (i + 1))
  more = omega arith

  pub lowest-stop : (covered i ≡ 1 → ⊥) → lowest covered cost (m - i) i ≡ NotOnce (i + 1) (covered i)
  unfolding lowest
  lowest-stop h = rw (more, add-one i) (simp (lowest, ne_eqb _ _ h))

  pub lowest_next : covered i ≡ 1 → lowest covered cost (m - i) i ≡ lowest covered cost (m - (i + 1)) (i + 1)
  unfolding lowest
  lowest_next h = rw (more, add-one i) (simp (lowest, eq-eqb _ _ h))

pub lowest-end : (covered : ℕ → ℕ) (cost : ℤ) (m i : ℕ) → m ≤ i → lowest covered cost (m - i) i ≡ Plan cost
unfolding lowest
lowest-end covered cost m i h =
    let e : m - i ≡ 0 = omega arith in
    rw e

-- two counts that agree on the rows
lowest-same : (f g : ℕ → ℕ) (cost : ℤ) (m i : ℕ) → ((k : ℕ) → k < m + i → f k ≡ g k) → lowest f cost m i ≡ lowest g cost m i
unfolding lowest
lowest-same f g cost zero i h = refl
lowest-same f g cost (suc m) i h = rw (h i (omega arith), lowest-same f g cost m (suc i) (λ k l. h k (omega arith)))

-- an accepted file and a list of its columns
module _ (s js : List ℕ) (o : Offered s js) where
  covered-is : (i : ℕ) → get_or (counted_all (file_matrix s) js none_covered) i 0 ≡ count (file_matrix s) i (named js)
  unfolding count
  covered-is i =
      rw (file-width s)
      (omega (
        arith,
        counted_all_at (file_matrix s) js none_covered i (body-rises s o.file) refl,
        none-at 64 i,
        tally-total 0 (columns_in s) js (λ j. on (covers (file_matrix s) i j) 1) o.rises,
      ))

  pub verdict-is : (cost : ℤ) (covered : List ℕ) (rows : ℕ) → covered ≡ counted_all (file_matrix s) js none_covered →
      cost ≡ offered_price s js → rows ≡ rows_in s →
      lowest (λ i. get_or covered i 0) cost rows 0 ≡ verdict (file_matrix s) (parse s).costs (named js)
  unfolding verdict instance parse
  verdict-is cost covered rows e f r =
      rw (e, f, r)
      (lowest-same (λ i. get_or (counted_all (file_matrix s) js none_covered) i 0) (λ i. count (file_matrix s) i (named js)) (offered_price s js) (rows_in s) 0 (λ i l. covered-is i))

-- the ways out of checking
module _ (s js : List ℕ) where
  pub checking-refused : (k : ℕ) → refused k ≡ unless (file_fault s) (shape s) → refused k ≡ checking s js
  unfolding checking
  checking-refused k e = unless-fault _ k (stops_at k _ (refuses _ _ k (sym e)))

  module _ (f : file_fault s ≡ fine) where
    pub checking-not-rising : rising 0 (columns_in s) js ≡ false → refused 12 ≡ checking s js
    unfolding checking
    checking-not-rising e = unless-fault _ 12 (goes_on _ f ∙ fails 12 e)

    pub checking-done : rising 0 (columns_in s) js ≡ true → accepted (verdict (file_matrix s) (parse s).costs (named js)) ≡ checking s js
    unfolding checking instance
    checking-done e = unless-fine _ (goes_on _ f ∙ passes 12 e)
