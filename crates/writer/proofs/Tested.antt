-- The ways out of the lists' tests, stage by stage, and of writing once they are done.
use mathlib.Core.Path.{◌≡◌, ap, sym, ◌∙◌}
use mathlib.Core.List.{List}
use Prim.Native.Nat.{ℕ, ◌+◌, ◌≤◌, ◌<◌}
use native.Mathlib.Omega.{arith}
use lib.IntN.{ℤ}
use lib.ListN.{length}
use borrow.Author.Tests.{eq-eqb, ne_eqb, eqb-true, le-leb, lt-leb}
use Rattle.refusals.specs.Refusals.{fine, fault, Outcome, accepted, refused, unless}
use Rattle.refusals.proofs.Laws.{both, asked, stops_at, goes_on, passes, fails, unless-fine, unless-fault, unless-same, accepts, refuses}
use Rattle.dutyfile.specs.declared.Edition.{Edition}
use Rattle.dutyfile.specs.File.{Lists, lists, bodies_at, render, sum, bodies}
use Rattle.dutyfile.specs.Faults.{counts_fault, columns_fault, bodies_fault, numbers_fault, lists_fault, writing}
use Rattle.dutyfile.proofs.Round.{length-render}

-- the row numbers
module _ (m : ℕ) (ls ns : List ℕ) (size : ℕ) where
  pub numbers_differ : (total : ℕ) → total ≡ sum ls → (length ns ≡ total → ⊥) → refused 13 ≡ unless (numbers_fault m ls ns) size
  unfolding numbers_fault
  numbers_differ total e h = unless-fault _ 13 (stops_at 13 _ (fails 13 (ne_eqb _ _ (λ q. h (q ∙ sym e)))))

  module _ (same : length ns ≡ sum ls) where
    pub bodies_fail : (k : ℕ) → bodies_fault m (bodies ls ns) ≡ fault k → refused k ≡ unless (numbers_fault m ls ns) size
    unfolding numbers_fault
    bodies_fail k e = unless-fault _ k (goes_on _ (passes 13 (eq-eqb _ _ same)) ∙ e)

    pub bodies-pass : bodies_fault m (bodies ls ns) ≡ fine → accepted size ≡ unless (numbers_fault m ls ns) size
    unfolding numbers_fault
    bodies-pass e = unless-fine _ (goes_on _ (passes 13 (eq-eqb _ _ same)) ∙ e)

numbers-count : (m : ℕ) (ls ns : List ℕ) → numbers_fault m ls ns ≡ fine → length ns ≡ sum ls
unfolding numbers_fault
numbers-count m ls ns e = eqb-true _ _ (asked _ 13 (both _ _ e).0)

tests_left : (ed : Edition) (m : ℕ) (cs : List ℤ) (ls ns : List ℕ) → counts_fault m (length cs) ≡ fine → length ls ≡ length cs → columns_fault ed m 0 cs ls ≡ fine →
    lists_fault (lists ed m cs ls ns) ≡ numbers_fault m ls ns
unfolding lists_fault
tests_left ed m cs ls ns counts same e = goes_on _ counts ∙ goes_on _ (passes 13 (eq-eqb _ _ same)) ∙ goes_on _ e

-- what the lists' tests come to
abbrev pub tested : Lists → Outcome ℕ
tested d = unless (lists_fault d) (length (render d))

module _ (ed : Edition) (m : ℕ) (cs : List ℤ) (ls ns : List ℕ) where
  pub counts_fail : (k : ℕ) → counts_fault m (length cs) ≡ fault k → refused k ≡ tested (lists ed m cs ls ns)
  unfolding lists_fault
  counts_fail k e = unless-fault _ k (stops_at k _ e)

  module _ (counts : counts_fault m (length cs) ≡ fine) where
    pub lengths_differ : (length ls ≡ length cs → ⊥) → refused 13 ≡ tested (lists ed m cs ls ns)
    unfolding lists_fault
    lengths_differ h = unless-fault _ 13 (goes_on _ counts ∙ stops_at 13 _ (fails 13 (ne_eqb _ _ h)))

    module _ (same : length ls ≡ length cs) where
      pub columns_fail : (k : ℕ) → columns_fault ed m 0 cs ls ≡ fault k → refused k ≡ tested (lists ed m cs ls ns)
      unfolding lists_fault
      columns_fail k e = unless-fault _ k (goes_on _ counts ∙ goes_on _ (passes 13 (eq-eqb _ _ same)) ∙ stops_at k _ e)

      pub columns-pass : columns_fault ed m 0 cs ls ≡ fine → unless (numbers_fault m ls ns) (bodies_at (length cs) + sum ls) ≡ tested (lists ed m cs ls ns)
      columns-pass e = unless-same (numbers_fault m ls ns) _ _ size ∙ ap (λ f. unless f (length (render (lists ed m cs ls ns)))) (sym rest)
        where
          size : numbers_fault m ls ns ≡ fine → bodies_at (length cs) + sum ls ≡ length (render (lists ed m cs ls ns))
          size f = omega (arith, length-render (lists ed m cs ls ns) same, numbers-count m ls ns f)

          rest : lists_fault (lists ed m cs ls ns) ≡ numbers_fault m ls ns
          rest = tests_left ed m cs ls ns counts same e

-- writing, once the tests are done
module _ (d : Lists) (k : ℕ) where
  pub writing-refused : (j : ℕ) → refused j ≡ tested d → refused j ≡ writing d k
  unfolding writing
  writing-refused j e = unless-fault _ j (stops_at j _ (refuses _ _ j (sym e)))

  module _ (size : ℕ) (e : accepted size ≡ tested d) where
    pub writing-size : size ≡ length (render d)
    writing-size = sym (accepts _ _ _ (sym e)).1

    pub writing-fine : lists_fault d ≡ fine
    writing-fine = (accepts _ _ _ (sym e)).0

    pub writing-short : k < size → refused 10 ≡ writing d k
    unfolding writing
    writing-short h = unless-fault _ 10 (goes_on _ writing-fine ∙ fails 10 (lt-leb _ _ (rw writing-size at h)))

    pub writing-done : size ≤ k → accepted size ≡ writing d k
    unfolding writing
    writing-done h = rw writing-size (unless-fine _ (goes_on _ writing-fine ∙ passes 10 (le-leb _ _ (rw writing-size at h))))
