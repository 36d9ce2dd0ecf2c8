-- Counting a body adds 1 to each of its rows, and counting a list of bodies adds 1 to a row for each that covers it.
use Rattle.std.proofs.Common.{◌≡◌, ℕ, zero, suc, ◌+◌, ◌-◌, ◌<◌, ◌≤◌, Bool, true, false, eqb, List, [], ◌∷◌, length, get_or, drop, set, refl, ◌∙◌, arith, length-set, drop_of_length-le, get_or-set_other, get_or-set_same, eqb-true}
use borrow.Author.Tests.{eqb-false}
use Rattle.node.proofs.Loops.{drop-step}
use Rattle.node.specs.Lists.{member, on}
use Rattle.rules.proofs.Sums.{on_one}
use Rattle.node.specs.Matrix.{Matrix, body, covers}
use Rattle.dutyfile.specs.Faults.{rising}
use Rattle.dutyfile.proofs.Rising.{rising_cons, rising-at}
use Rattle.verify.specs.Counts.{counted, counted_all}
use Rattle.verify.proofs.Sums.{member-suc, tally}

-- 1 more at place i
bump_at : (c : List ℕ) (i j : ℕ) → i < length c → get_or (set c i (get_or c i 0 + 1)) j 0 ≡ get_or c j 0 + on (eqb j i) 1
bump_at c i j h = go (eqb j i) refl
  where
    go : (t : Bool) → eqb j i ≡ t → get_or (set c i (get_or c i 0 + 1)) j 0 ≡ get_or c j 0 + on t 1
    go true e = rw (eqb-true j i e) (get_or-set_same c i (get_or c i 0 + 1) 0 h)
    go false e = get_or-set_other c i j (get_or c i 0 + 1) 0 (eqb-false j i e) ∙ omega arith

pub length-counted : (b c : List ℕ) → length (counted b c) ≡ length c
unfolding counted
length-counted [] c = refl
length-counted (r ∷ rs) c = length-counted rs (set c (r - 1) (get_or c (r - 1) 0 + 1)) ∙ length-set c (r - 1) (get_or c (r - 1) 0 + 1)

pub counted-at : (low : ℕ) (b c : List ℕ) (i : ℕ) → rising low 64 b ≡ true → length c ≡ 64 →
    get_or (counted b c) i 0 ≡ get_or c i 0 + on (member (suc i) b) 1
unfolding counted member
counted-at low [] c i e l = omega arith
counted-at low (zero ∷ rs) c i e l = absurd (omega (arith, (rising_cons low 64 zero rs e).0))
counted-at low (suc y ∷ rs) c i e l =
    let f = rising_cons low 64 (suc y) rs e in
    let z : suc y - 1 ≡ y = omega arith in
    rw z
    (omega (
      arith,
      counted-at (suc y) rs (set c y (get_or c y 0 + 1)) i f.2 (length-set c y (get_or c y 0 + 1) ∙ l),
      bump_at c y i (omega (arith, f.1)),
      member-suc y 64 rs i 1 f.2,
    ))

pub counted_all_at : (p : Matrix) (js c : List ℕ) (i : ℕ) → ((j : ℕ) → rising 0 64 (body p j) ≡ true) → length c ≡ 64 →
    get_or (counted_all p js c) i 0 ≡ get_or c i 0 + tally (λ j. on (covers p i j) 1) js
unfolding counted_all tally covers
counted_all_at p [] c i r l = omega arith
counted_all_at p (j ∷ js) c i r l =
    omega (
      arith,
      counted_all_at p js (counted (body p (j - 1)) c) i r (length-counted (body p (j - 1)) c ∙ l),
      counted-at 0 (body p (j - 1)) c i (r (j - 1)) l,
    )

-- at place k of a body
pub record Counting (body old out : List ℕ) (k : ℕ) : Type 0 where
  pub sized : length out ≡ 64
  pub within : k ≤ length body
  pub room : (i : ℕ) → get_or out i 0 + (length body - k) < 4294967296
  pub left : counted (drop k body) out ≡ counted body old

module _ (body old : List ℕ) (rises : rising 0 64 body ≡ true) where
  pub counting_start : length old ≡ 64 → ((i : ℕ) → get_or old i 0 + length body < 4294967296) → Counting body old old 0
  counting_start l h = record { sized = l; within = omega arith; room = λ i. omega (arith, h i); left = refl }

  module _ (out : List ℕ) (k : ℕ) (w : Counting body old out k) where
    module _ (inside : k < length body) where
      pub counting_next : Counting body old (set out (get_or body k 0 - 1) (get_or out (get_or body k 0 - 1) 0 + 1)) (k + 1)
      unfolding counted
      counting_next =
          let r = rising-at 0 64 body k rises inside in
          record {
            sized = simp length-set w.sized;
            within = omega arith;
            room = λ i. omega (arith, bump_at out (get_or body k 0 - 1) i (omega (arith, r.0, r.1, w.sized)), w.room i, on_one (eqb i (get_or body k 0 - 1)));
            left = rw (drop-step body k inside) at w.left;
          }

    pub counting_end : length body ≤ k → out ≡ counted body old
    unfolding counted
    counting_end h = rw (drop_of_length-le body h) at w.left

-- a body counted adds at most 1 to a row
pub counted_le : (b c : List ℕ) (i : ℕ) → rising 0 64 b ≡ true → length c ≡ 64 → get_or (counted b c) i 0 ≤ get_or c i 0 + 1
counted_le b c i e l = omega (arith, counted-at 0 b c i e l, on_one (member (suc i) b))
