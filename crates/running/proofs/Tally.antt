-- The rows of a body: each count changes once, and the number of rows that are off changes with them.
use mathlib.Core.Path.{◌≡◌, refl, ap, ◌∙◌}
use mathlib.Core.Bool.{Bool, true, false, not, cond, ◌||◌}
use mathlib.Core.List.{List, [], ◌∷◌}
use Prim.Native.Nat.{ℕ, zero, suc, ◌+◌, ◌-◌, ◌≤◌, ◌<◌}
use native.Mathlib.Omega.{arith}
use borrow.Author.Tests.{eqb-true, eqb-false}
use lib.Dec.{eqb, eqb-suc-suc}
use lib.ListN.{length, get_or, set, length-set}
use lib.Seq.{get_or-set_same, get_or-set_other}
use Rattle.node.specs.Lists.{member, on}
use Rattle.rules.proofs.Sums.{total_le, total-ones, on_one}
use Rattle.dutyfile.specs.Faults.{rising}
use Rattle.dutyfile.proofs.Rising.{rising_cons, rising_none}
use Rattle.counts.specs.Counts.{Counts, plus, more, less, off_by, row_moved, rows_moved}
use Rattle.running.specs.Recount.{off_in}
use Rattle.running.proofs.Sums.{total_except}

-- the number of rows that are off is the one counted
pub record Tallied (m : ℕ) (c : Counts) : Type 0 where
  pub sized : length c.covered ≡ 64
  pub is : c.off ≡ off_in m (λ i. get_or c.covered i 0)

off_le : (m : ℕ) (covered : ℕ → ℕ) → off_in m covered ≤ m
off_le m covered =
    omega (arith, total_le m (λ i. on (not (eqb (covered i) 1)) 1) (λ i. 1) (λ i l. on_one (not (eqb (covered i) 1))), total-ones m (λ i. 1) (λ i l. refl))

-- by a number that leads away from 1
module _ (by : ℕ) (away : plus 1 by ≡ 1 → ⊥) (m : ℕ) (tall : m ≤ 64) where
  step : (off next old : ℕ) → off ≤ 64 → next + on (not (eqb old 1)) 1 ≡ off + on (not (eqb (plus old by) 1)) 1 → plus off (off_by old (plus old by)) ≡ next
  unfolding off_by
  step off next old l e = go (eqb old 1) (eqb (plus old by) 1) refl refl e
    where
      go : (s t : Bool) → eqb old 1 ≡ s → eqb (plus old by) 1 ≡ t → next + on (not s) 1 ≡ off + on (not t) 1 → plus off (cond s more (cond t less 0)) ≡ next
      go true true p q e = absurd (away (rw (eqb-true old 1 p) at (eqb-true (plus old by) 1 q)))
      go true false p q e = omega arith
      go false true p q e = omega arith
      go false false p q e = omega arith

  row_tallied : (c : Counts) (i : ℕ) → i < m → Tallied m c → Tallied m (row_moved by i c)
  unfolding row_moved
  row_tallied c i h w =
      let k = c.covered in
      let v = plus (get_or k i 0) by in
      let here : get_or (set k i v) i 0 ≡ v = get_or-set_same k i v 0 (omega (arith, w.sized)) in
      record {
        sized = simp length-set w.sized;
        is = step c.off _ (get_or k i 0) (rw w.is (omega (arith, off_le m (λ r. get_or k r 0))))
            (rw w.is (rw here at (total_except m i (λ r. on (not (eqb (get_or (set k i v) r 0) 1)) 1) (λ r. on (not (eqb (get_or k r 0) 1)) 1) h
            (λ r ne. rw (get_or-set_other k i r v 0 ne)))));
      }

  pub rows_tallied : (low : ℕ) (b : List ℕ) (c : Counts) → rising low m b ≡ true → Tallied m c → Tallied m (rows_moved by b c)
  unfolding rows_moved
  rows_tallied low [] c e w = w
  rows_tallied low (r ∷ rs) c e w =
      let f = rising_cons low m r rs e in
      rows_tallied r rs (row_moved by (r - 1) c) f.2 (row_tallied c (r - 1) (omega (arith, f.0, f.1)) w)

rows_cons : (by y : ℕ) (rs : List ℕ) (c : Counts) → rows_moved by (suc y ∷ rs) c ≡ rows_moved by rs (row_moved by y c)
unfolding rows_moved
rows_cons by y rs c = let z : suc y - 1 ≡ y = omega arith in ap (λ k. rows_moved by rs (row_moved by k c)) z

-- the counts of the body's rows change, and no others
pub rows-counts : (by m : ℕ) → m ≤ 64 → (low : ℕ) (b : List ℕ) (c : Counts) → rising low m b ≡ true → length c.covered ≡ 64 → (i : ℕ) →
    get_or (rows_moved by b c).covered i 0 ≡ cond (member (suc i) b) (plus (get_or c.covered i 0) by) (get_or c.covered i 0)
unfolding rows_moved row_moved member
rows-counts by m tall low [] c e l i = refl
rows-counts by m tall low (zero ∷ rs) c e l i = absurd (omega (arith, (rising_cons low m zero rs e).0))
rows-counts by m tall low (suc y ∷ rs) c e l i =
    let f = rising_cons low m (suc y) rs e in
    ap (λ (e : Counts). get_or e.covered i 0) (rows_cons by y rs c)
    ∙ rows-counts by m tall (suc y) rs (row_moved by y c) f.2 (simp length-set l) i
    ∙ rw (eqb-suc-suc i y) (go (eqb i y) refl f.1 f.2)
  where
    go : (t : Bool) → eqb i y ≡ t → suc y ≤ m → rising (suc y) m rs ≡ true →
        cond (member (suc i) rs) (plus (get_or (set c.covered y (plus (get_or c.covered y 0) by)) i 0) by) (get_or (set c.covered y (plus (get_or c.covered y 0) by)) i 0)
        ≡ cond (t || member (suc i) rs) (plus (get_or c.covered i 0) by) (get_or c.covered i 0)
    go true q h r =
        let p : i ≡ y = eqb-true i y q in
        rw (p, rising_none (suc y) m rs (suc y) r (omega arith), get_or-set_same c.covered y (plus (get_or c.covered y 0) by) 0 (omega (arith, l)))
    go false q h r = rw (get_or-set_other c.covered y i (plus (get_or c.covered y 0) by) 0 (eqb-false i y q))
