-- The law that joins the costs of a search and the prices in the file (02, P10): the columns of a plan have one number for each row, so
-- raising shifts every plan by the same amount.
use mathlib.Core.Path.{◌≡◌, refl, sym, ap, ◌∙◌}
use mathlib.Core.Bool.{Bool, true, false}
use mathlib.Core.List.{List, [], ◌∷◌}
use Prim.Native.Nat.{ℕ, zero, suc, ◌*◌, ◌<◌}
use native.Mathlib.Omega.{arith}
use lib.Dec.{eqb}
use lib.IntN.{ℤ, pos, ◌+ℤ◌, ◌-ℤ◌, +ℤ_assoc, +ℤ_comm, +ℤ-neg_ℤ_cancel}
use lib.ListN.{length, get_or}
use Rattle.node.specs.Lists.{member, on, total, on_z, total_z}
use Rattle.node.specs.Matrix.{Matrix, width, body, span, covers, count, price, signed_price, IsPlan}
use Rattle.rules.proofs.Sums.{total_cong, total-add, total-at, total-zero, total_mul, total_swap, total-ones}
use Rattle.dutyfile.specs.declared.Edition.{Edition}
use Rattle.dutyfile.specs.declared.Edition.TheVariants.{Spp1, Spp2}
use Rattle.dutyfile.specs.File.{edition_in, parse, shift, instance}
use Rattle.dutyfile.specs.Faults.{rising}
use Rattle.dutyfile.proofs.Facts.{Accepted}
use Rattle.dutyfile.proofs.Rising.{rising_cons, member-suc}
use Rattle.matrix.proofs.Accepted.{file-rises, file-raised}

-- a rising body has as many numbers as rows that it covers
length-total : (low n : ℕ) (b : List ℕ) → rising low n b ≡ true → length b ≡ total n (λ i. on (member (suc i) b) 1)
unfolding member
length-total low n [] e = sym (total-zero n (λ j. 0) (λ k h. refl))
length-total low n (zero ∷ b) e = absurd (omega (arith, (rising_cons low n zero b e).0))
length-total low n (suc y ∷ b) e =
    let c = rising_cons low n (suc y) b e in
    omega (
      arith,
      length-total (suc y) n b c.2,
      total-at n y (λ i. 1) c.1,
      total-add n (λ i. on (member (suc i) (suc y ∷ b)) 1) (λ i. on (eqb i y) 1) (λ i. on (member (suc i) b) 1)
          (λ i h. member-suc y n b i 1 c.2),
    )

module _ (p : Matrix) (rises : (j : ℕ) → rising 0 p.rows (body p j) ≡ true) (X : ℕ → Bool) (plan : IsPlan p X) where
  chosen-span : (j : ℕ) (b : Bool) → on b (span p j) ≡ total p.rows (λ i. on b (on (covers p i j) 1))
  unfolding covers
  chosen-span j true = length-total 0 p.rows (body p j) (rises j)
  chosen-span j false = sym (total-zero p.rows (λ i. 0) (λ k h. refl))

  spans : total (width p) (λ j. on (X j) (span p j)) ≡ p.rows
  unfolding count
  spans =
      total_cong (width p) (λ j. on (X j) (span p j)) (λ j. total p.rows (λ i. on (X j) (on (covers p i j) 1))) (λ j h. chosen-span j (X j))
      ∙ total_swap (width p) p.rows (λ i j. on (X j) (on (covers p i j) 1))
      ∙ total-ones p.rows (λ i. count p i X) plan

  -- so the shifts of a plan's columns make the shift of all rows
  shifts : (ed : Edition) → total (width p) (λ j. on (X j) (shift ed (span p j))) ≡ shift ed p.rows
  unfolding shift
  shifts Spp1 = total-zero (width p) (λ j. on (X j) 0) (λ j h. none (X j))
    where
      none : (b : Bool) → on b 0 ≡ 0
      none true = refl
      none false = refl
  shifts Spp2 =
      total_mul (width p) 1000000 (λ j. on (X j) (1000000 * span p j)) (λ j. on (X j) (span p j)) (λ j h. times (X j) (span p j))
      ∙ ap (λ k. 1000000 * k) spans
    where
      times : (b : Bool) (k : ℕ) → on b (1000000 * k) ≡ 1000000 * on b k
      times true k = refl
      times false k = refl

swap : (a b c d : ℤ) → (a +ℤ b) +ℤ (c +ℤ d) ≡ (a +ℤ c) +ℤ (b +ℤ d)
swap a b c d =
    +ℤ_assoc a b (c +ℤ d)
    ∙ ap (λ x. a +ℤ x) (sym (+ℤ_assoc b c d) ∙ ap (λ x. x +ℤ d) (+ℤ_comm b c) ∙ +ℤ_assoc c b d)
    ∙ sym (+ℤ_assoc a c (b +ℤ d))

total-split : (n : ℕ) (f h : ℕ → ℕ) (g : ℕ → ℤ) → ((k : ℕ) → k < n → pos (f k) ≡ g k +ℤ pos (h k))
    → pos (total n f) ≡ total_z n g +ℤ pos (total n h)
unfolding total total_z
total-split zero f h g e = refl
total-split (suc n) f h g e =
    ap (λ x. x +ℤ pos (f n)) (total-split n f h g (λ k l. e k (omega arith)))
    ∙ ap (λ x. (total_z n g +ℤ pos (total n h)) +ℤ x) (e n (omega arith))
    ∙ swap (total_z n g) (pos (total n h)) (g n) (pos (h n))

module _ (s : List ℕ) (a : Accepted s) (X : ℕ → Bool) where
  abbrev p : Matrix
  p = (instance (parse s)).matrix

  each : (j : ℕ) (b : Bool) → j < width p →
      pos (on b (get_or (instance (parse s)).costs j 0)) ≡ on_z b (get_or (parse s).costs j (pos 0)) +ℤ pos (on b (shift (edition_in s) (span p j)))
  each j true l = file-raised s a j l
  each j false l = refl

  raised-price : IsPlan p X → pos (price p (instance (parse s)).costs X) ≡ signed_price p (parse s).costs X +ℤ pos (shift (edition_in s) p.rows)
  unfolding price signed_price
  raised-price plan =
      total-split (width p) (λ j. on (X j) (get_or (instance (parse s)).costs j 0)) (λ j. on (X j) (shift (edition_in s) (span p j)))
      (λ j. on_z (X j) (get_or (parse s).costs j (pos 0))) (λ j l. each j (X j) l)
      ∙ ap (λ k. signed_price p (parse s).costs X +ℤ pos k) (shifts p (file-rises s a) X plan (edition_in s))

  -- a plan's price is its cost in the search, less the shift of all rows
  pub price-lowered : IsPlan p X → pos (price p (instance (parse s)).costs X) -ℤ pos (shift (edition_in s) p.rows) ≡ signed_price p (parse s).costs X
  price-lowered plan =
      ap (λ x. x -ℤ pos (shift (edition_in s) p.rows)) (raised-price plan)
      ∙ +ℤ-neg_ℤ_cancel (signed_price p (parse s).costs X) (pos (shift (edition_in s) p.rows))
