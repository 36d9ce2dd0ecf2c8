-- A matrix with a column appended for each row above k: its plans are the choices whose columns share no row and cover the first k rows,
-- completed by the appended columns of the rows that they leave.
use mathlib.Core.Path.{◌≡◌, refl, ◌∙◌}
use mathlib.Core.Bool.{Bool, true, false, cond, ◌||◌}
use mathlib.Core.List.{[], ◌∷◌, ◌++◌}
use Prim.Native.Nat.{ℕ, zero, suc, ◌+◌, ◌-◌, ◌≤◌, ◌<◌}
use native.Mathlib.Nat.{add-zero}
use native.Mathlib.Omega.{arith}
use lib.Dec.{eqb, ltb}
use lib.ListN.{length-append, length-map, get_or-append}
use lib.Seq.{get_or-append-add}
use borrow.Author.Tests.{eq-eqb, ne_eqb, eqb-true, eqb-false, lt-ltb, le-ltb, ltb-true, ltb-false}
use Rattle.node.specs.Lists.{member, on, total}
use Rattle.node.specs.Matrix.{Matrix, width, covers, count, IsPlan}
use Rattle.node.proofs.Members.{length_from}
use Rattle.node.proofs.Parts.{map_at}
use Rattle.rules.proofs.Sums.{total_cong, total-zero, total-at, count_same}
use Rattle.trials.specs.Told.{CoversFirst}
use Rattle.trials.proofs.Extended.{singles}

total-split : (n e : ℕ) (f : ℕ → ℕ) → total (n + e) f ≡ total n f + total e (λ x. f (n + x))
unfolding total
total-split n zero f = rw (add-zero n) (omega arith)
total-split n (suc e) f =
    let s : n + suc e ≡ suc (n + e) = omega arith in
    rw s (omega (arith, total-split n e f))

or-false : (b : Bool) → (b || false) ≡ b
or-false true = refl
or-false false = refl

-- a count of at most 1, completed where it is 0
completes : (c : ℕ) → c ≤ 1 → c + on (eqb c 0) 1 ≡ 1
completes zero h = refl
completes (suc zero) h = refl
completes (suc (suc c)) h = absurd (omega arith)

module _ (p : Matrix) (k : ℕ) where
  abbrev w : ℕ
  w = width p

  abbrev e : ℕ
  e = p.rows - k

  abbrev pub appended : Matrix
  appended = record { rows = p.rows; bodies = p.bodies ++ singles e (suc k) }

  pub width_appended : width appended ≡ w + e
  width_appended = simp (length-append, length-map, length_from)

  covers-own : (i j : ℕ) → j < w → covers appended i j ≡ covers p i j
  unfolding covers
  covers-own i j l = rw (get_or-append p.bodies (singles e (suc k)) [] j l)

  covers_more : (i x : ℕ) → x < e → covers appended i (w + x) ≡ eqb (suc i) (suc k + x)
  unfolding covers member
  covers_more i x l = rw (get_or-append-add p.bodies (singles e (suc k)) x [], map_at (λ r. r ∷ []) e (suc k) x l) (or-false _)

  -- what the appended columns add to the count of a row
  more : ℕ → (ℕ → Bool) → ℕ
  more i Y = total e (λ x. on (Y (w + x)) (on (eqb (suc i) (suc k + x)) 1))

  count_appended : (i : ℕ) (Y : ℕ → Bool) → count appended i Y ≡ count p i Y + more i Y
  unfolding count more
  count_appended i Y =
      let f : ℕ → ℕ = λ j. on (Y j) (on (covers appended i j) 1) in
      let own = total_cong w f (λ j. on (Y j) (on (covers p i j) 1)) (λ j l. rw (covers-own i j l)) in
      let new = total_cong e (λ x. f (w + x)) (λ x. on (Y (w + x)) (on (eqb (suc i) (suc k + x)) 1)) (λ x l. rw (covers_more i x l)) in
      rw width_appended (omega (arith, total-split w e f, own, new))

  more-none : (i : ℕ) (Y : ℕ → Bool) → i < k → more i Y ≡ 0
  unfolding more
  more-none i Y l = total-zero e _ (λ x h. rw (ne_eqb (suc i) (suc k + x) (λ q. omega (arith, q, l))) (off (Y (w + x))))
    where
      off : (b : Bool) → on b 0 ≡ 0
      off true = refl
      off false = refl

  more-one : (i : ℕ) (Y : ℕ → Bool) → k ≤ i → i < p.rows → more i Y ≡ on (Y (w + (i - k))) 1
  unfolding more
  more-one i Y l h =
      total_cong e _ (λ x. on (eqb x (i - k)) (on (Y (w + x)) 1)) (λ x m. go x (eqb x (i - k)) refl)
      ∙ total-at e (i - k) (λ x. on (Y (w + x)) 1) (omega (arith, l, h))
    where
      both_on : (a b : Bool) → on a (on b 1) ≡ on b (on a 1)
      both_on true true = refl
      both_on true false = refl
      both_on false true = refl
      both_on false false = refl

      go : (x : ℕ) (b : Bool) → eqb x (i - k) ≡ b → on (Y (w + x)) (on (eqb (suc i) (suc k + x)) 1) ≡ on b (on (Y (w + x)) 1)
      go x true q = let s = eqb-true x (i - k) q in rw (eq-eqb (suc i) (suc k + x) (omega (arith, s, l))) (both_on (Y (w + x)) true)
      go x false q =
          let s = eqb-false x (i - k) q in
          rw (ne_eqb (suc i) (suc k + x) (λ t. s (omega (arith, t, l)))) (both_on (Y (w + x)) false)

  pub plan-covers : k ≤ p.rows → (Y : ℕ → Bool) → IsPlan appended Y → CoversFirst p k Y
  plan-covers low Y h = record {
    apart = λ i l. omega (arith, h i l, count_appended i Y);
    covered = λ i l. omega (arith, h i (omega (arith, l, low)), count_appended i Y, more-none i Y l);
  }

  -- a choice, and the appended columns of the rows that it leaves
  pub completed : (ℕ → Bool) → ℕ → Bool
  completed X j = cond (ltb j w) (X j) (eqb (count p (k + (j - w)) X) 0)

  completed_own : (i : ℕ) (X : ℕ → Bool) → count p i (completed X) ≡ count p i X
  unfolding completed
  completed_own i X = count_same p i (completed X) X (λ j l. rw (lt-ltb j w l))

  completed_more : (i : ℕ) (X : ℕ → Bool) → k ≤ i → completed X (w + (i - k)) ≡ eqb (count p i X) 0
  unfolding completed
  completed_more i X l =
      let s : k + (w + (i - k) - w) ≡ i = omega (arith, l) in
      rw (le-ltb (w + (i - k)) w (omega arith), s)

  pub covers-plan : (X : ℕ → Bool) → CoversFirst p k X → IsPlan appended (completed X)
  covers-plan X c i l = go (ltb i k) refl
    where
      sum : count appended i (completed X) ≡ count p i X + more i (completed X)
      sum = rw (← completed_own i X) (count_appended i (completed X))

      go : (b : Bool) → ltb i k ≡ b → count appended i (completed X) ≡ 1
      go true q =
          let h = ltb-true i k q in
          omega (arith, sum, more-none i (completed X) h, c.apart i l, c.covered i h)
      go false q =
          let h = ltb-false i k q in
          omega (arith, sum, rw (completed_more i X h) at (more-one i (completed X) h l), completes (count p i X) (c.apart i l))
