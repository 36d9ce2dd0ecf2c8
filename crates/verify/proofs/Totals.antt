-- Sums of costs that may be below 0: a choice with one more column, how large a sum is, and what a choice of columns costs.
use Rattle.std.proofs.Common.{◌≡◌, ℕ, zero, suc, ◌*◌, ◌<◌, ◌≤◌, Bool, true, false, eqb, List, get_or, ℤ, pos, ◌+ℤ◌, sym, refl, ap, ◌∙◌, arith, w32, SFits, eqb-true}
use borrow.Author.Tests.{eqb-false}
use lib.IntN.{+ℤ_assoc, +ℤ_comm, +ℤ_idr}
use lib.Signed.{mag}
use Rattle.signed.proofs.Exact.{mag-add}
use Rattle.node.specs.Lists.{on_z, total_z}
use Rattle.node.specs.Matrix.{Matrix, width, signed_price}
use Rattle.dutyfile.specs.File.{edition_in, parse, instance}
use Rattle.dutyfile.proofs.Costs.{cost-small}
use Rattle.dutyfile.proofs.Facts.{Accepted}
use Rattle.dutyfile.proofs.Columns.{file-width, column-at}

pub total_z_cong : (n : ℕ) (f g : ℕ → ℤ) → ((k : ℕ) → k < n → f k ≡ g k) → total_z n f ≡ total_z n g
unfolding total_z
total_z_cong zero f g h = refl
total_z_cong (suc n) f g h = rw (total_z_cong n f g (λ k l. h k (omega arith)), h n (omega arith))

total_z_none : (n : ℕ) → total_z n (λ k. pos 0) ≡ pos 0
unfolding total_z
total_z_none zero = refl
total_z_none (suc n) = rw (total_z_none n)

-- Y is X with column j
pub record Joins (X Y : ℕ → Bool) (j : ℕ) : Type 0 where
  pub out : X j ≡ false
  pub in' : Y j ≡ true
  pub others : (k : ℕ) → (k ≡ j → ⊥) → X k ≡ Y k

module _ (X Y : ℕ → Bool) (j : ℕ) (w : Joins X Y j) (f : ℕ → ℤ) where
  pub total_z_joins : (n : ℕ) → j < n → total_z n (λ k. on_z (Y k) (f k)) ≡ total_z n (λ k. on_z (X k) (f k)) +ℤ f j
  unfolding total_z
  total_z_joins zero h = absurd (omega arith)
  total_z_joins (suc n) h = go (eqb n j) refl (λ l. total_z_joins n l)
    where
      last : (a b c : ℤ) → (a +ℤ b) +ℤ c ≡ (a +ℤ c) +ℤ b
      last a b c = +ℤ_assoc a b c ∙ ap (λ x. a +ℤ x) (+ℤ_comm b c) ∙ sym (+ℤ_assoc a c b)

      go : (t : Bool) → eqb n j ≡ t → (j < n → total_z n (λ k. on_z (Y k) (f k)) ≡ total_z n (λ k. on_z (X k) (f k)) +ℤ f j) →
          total_z n (λ k. on_z (Y k) (f k)) +ℤ on_z (Y n) (f n) ≡ (total_z n (λ k. on_z (X k) (f k)) +ℤ on_z (X n) (f n)) +ℤ f j
      go true e ih =
          let q : n ≡ j = eqb-true n j e in
          rw (q, w.out, w.in', +ℤ_idr (total_z j (λ k. on_z (X k) (f k))))
          (ap (λ x. x +ℤ f j) (total_z_cong j (λ k. on_z (Y k) (f k)) (λ k. on_z (X k) (f k)) (λ k l. rw (w.others k (λ r. omega arith)))))
      go false e ih =
          let q : n ≡ j → ⊥ = eqb-false n j e in
          rw (ih (omega (arith, q)), w.others n q) (last (total_z n (λ k. on_z (X k) (f k))) (f j) (on_z (Y n) (f n)))

-- each part adds at most 1,000,001 to the size
mag-total : (n : ℕ) (X : ℕ → Bool) (f : ℕ → ℤ) → ((k : ℕ) → k < n → mag (f k) ≤ 1000000) → mag (total_z n (λ k. on_z (X k) (f k))) ≤ n * 1000001
unfolding total_z
mag-total zero X f h = omega arith
mag-total (suc n) X f h =
    omega (
      arith,
      mag-add (total_z n (λ k. on_z (X k) (f k))) (on_z (X n) (f n)),
      mag-total n X f (λ k l. h k (omega arith)),
      go (X n) (f n) (h n (omega arith)),
    )
  where
    go : (b : Bool) (z : ℤ) → mag z ≤ 1000000 → mag (on_z b z) ≤ 1000000
    go true z l = l
    go false z l = omega arith

-- what a choice costs
module _ (p : Matrix) (costs : List ℤ) where
  pub signed-price-same : (X Y : ℕ → Bool) → ((j : ℕ) → j < width p → X j ≡ Y j) → signed_price p costs X ≡ signed_price p costs Y
  unfolding signed_price
  signed-price-same X Y h = total_z_cong (width p) _ _ (λ j l. rw (h j l))

  pub signed-price-none : signed_price p costs (λ j. false) ≡ pos 0
  unfolding signed_price
  signed-price-none = total_z_none (width p)

  pub signed_price_joins : (X Y : ℕ → Bool) (j : ℕ) → Joins X Y j → j < width p → signed_price p costs Y ≡ signed_price p costs X +ℤ get_or costs j (pos 0)
  unfolding signed_price
  signed_price_joins X Y j w h = total_z_joins X Y j w (λ k. get_or costs k (pos 0)) (width p) h

  pub signed-price-fits : width p ≤ 256 → ((j : ℕ) → j < width p → mag (get_or costs j (pos 0)) ≤ 1000000) → (X : ℕ → Bool) → SFits w32 (signed_price p costs X)
  unfolding signed_price
  signed-price-fits h c X = record { sfits = omega (arith, mag-total (width p) X (λ k. get_or costs k (pos 0)) c) }

-- of an accepted file
module _ (s : List ℕ) (a : Accepted s) where
  pub file-costs : (j : ℕ) → j < width (instance (parse s)).matrix → mag (get_or (parse s).costs j (pos 0)) ≤ 1000000
  file-costs j h =
      let c = column-at s a.walked j (omega (arith, file-width s)) in
      rw c.cost (cost-small (edition_in s) _ c.cheap)

  pub file-price-fits : (X : ℕ → Bool) → SFits w32 (signed_price (instance (parse s)).matrix (parse s).costs X)
  file-price-fits X =
      signed-price-fits (instance (parse s)).matrix (parse s).costs (omega (arith, file-width s, a.walked.header.counts.columns.most)) file-costs X
