-- The criteria in turn: the first in which two rows differ decides. A penalty is equal to another where their numbers are.
use mathlib.Core.Path.{◌≡◌, refl, sym, ◌∙◌}
use mathlib.Core.Bool.{Bool, true, false}
use Prim.Native.Nat.{ℕ, zero, suc, ◌<◌}
use native.Mathlib.Omega.{arith}
use lib.Dec.{eqb, ltb}
use borrow.Author.Tests.{eq-eqb, ne_eqb, le-ltb}
use Rattle.node.specs.Passes.{better}
use Rattle.node.proofs.Passes.{better-not}
use Rattle.rules.specs.Reduce.{by_order}
use Rattle.rules.specs.Tree.{above_p, same_p}
use Rattle.criteria.proofs.Criteria.{decides, ties_up}
use Rattle.choice.specs.declared.BranchRow.{BranchRow}
use Rattle.choice.specs.Row.{penalty_at, precedes}

-- penalty a above penalty b
pub above_most : (a b : ℕ) → b ≡ 0 → false ≡ above_p (penalty_at a) (penalty_at b)
unfolding above_p penalty_at
above_most zero zero e = refl
above_most (suc a) zero e = refl
above_most a (suc b) e = absurd (omega arith)

pub most_above : (a b : ℕ) → (b ≡ 0 → ⊥) → a ≡ 0 → true ≡ above_p (penalty_at a) (penalty_at b)
unfolding above_p penalty_at
most_above zero zero n e = absurd (n refl)
most_above zero (suc b) n e = refl
most_above (suc a) b n e = absurd (omega arith)

pub just_above : (a b : ℕ) → (b ≡ 0 → ⊥) → (a ≡ 0 → ⊥) → ltb b a ≡ above_p (penalty_at a) (penalty_at b)
unfolding above_p penalty_at
just_above zero b n m = absurd (m refl)
just_above (suc a) zero n m = absurd (n refl)
just_above (suc a) (suc b) n m = refl

same-penalty : (a b : ℕ) → same_p (penalty_at a) (penalty_at b) ≡ eqb a b
unfolding same_p penalty_at
same-penalty zero zero = refl
same-penalty zero (suc b) = sym (ne_eqb 0 (suc b) (λ e. omega arith))
same-penalty (suc a) zero = sym (ne_eqb (suc a) 0 (λ e. omega arith))
same-penalty (suc a) (suc b) = refl

not_above : (a : ℕ) → above_p (penalty_at a) (penalty_at a) ≡ false
unfolding above_p penalty_at
not_above zero = refl
not_above (suc a) = le-ltb (suc a) (suc a) (omega arith)

-- a penalty that decides, and equal ones
decides_penalty : (a b : ℕ) (r : Bool) → (a ≡ b → ⊥) →
    by_order (above_p (penalty_at a) (penalty_at b)) (same_p (penalty_at a) (penalty_at b)) r ≡ above_p (penalty_at a) (penalty_at b)
decides_penalty a b r n = rw (same-penalty a b) (decides (above_p (penalty_at a) (penalty_at b)) a b r n)

ties_penalty : (a b : ℕ) (r : Bool) → a ≡ b → by_order (above_p (penalty_at a) (penalty_at b)) (same_p (penalty_at a) (penalty_at b)) r ≡ r
unfolding by_order
ties_penalty a b r e = rw (same-penalty a b, e, not_above b, eq-eqb b b refl)

module _ (a b : BranchRow) where
  pub by-zeros : (a.zeros ≡ b.zeros → ⊥) → ltb a.zeros b.zeros ≡ precedes a b
  unfolding precedes
  by-zeros n = sym (decides _ a.zeros b.zeros _ n)

  -- a row with more columns at cost 0 gives way
  pub stays_best : b.zeros < a.zeros → b ≡ better precedes b a
  stays_best h = better-not precedes b a _ (by-zeros (λ e. omega arith)) (le-ltb a.zeros b.zeros (omega arith))

  module _ (z : a.zeros ≡ b.zeros) where
    pub by-penalty : (a.penalty ≡ b.penalty → ⊥) → above_p (penalty_at a.penalty) (penalty_at b.penalty) ≡ precedes a b
    unfolding precedes
    by-penalty n = sym (ties_up a.zeros b.zeros _ z ∙ decides_penalty a.penalty b.penalty _ n)

    module _ (q : a.penalty ≡ b.penalty) where
      pub by-free : (a.free ≡ b.free → ⊥) → ltb a.free b.free ≡ precedes a b
      unfolding precedes
      by-free n =
          sym (ties_up a.zeros b.zeros _ z ∙ ties_penalty a.penalty b.penalty _ q ∙ decides _ a.free b.free _ n)

      pub by_row : a.free ≡ b.free → ltb a.row b.row ≡ precedes a b
      unfolding precedes
      by_row f =
          sym (ties_up a.zeros b.zeros _ z ∙ ties_penalty a.penalty b.penalty _ q ∙ ties_up a.free b.free _ f)
