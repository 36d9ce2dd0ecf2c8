-- The numbers of a desk are those of the recount: on the empty desk, and after a step that puts a column in or takes it out.
use mathlib.Core.Path.{◌≡◌, refl, sym, ap, ◌∙◌}
use mathlib.Core.Bool.{Bool, true, false, not, cond}
use mathlib.Core.List.{List}
use Prim.Native.Nat.{ℕ, suc, ◌+◌, ◌≤◌, ◌<◌}
use native.Mathlib.Omega.{arith}
use borrow.Author.Tests.{eqb-true, eqb-false, eq-eqb, ne_eqb, not-true, not-false}
use lib.Dec.{eqb}
use lib.IntN.{ℤ, pos, ◌+ℤ◌}
use lib.ListN.{get_or, set, length-set, get_or-replicate}
use lib.Seq.{get_or-set_same, get_or-set_other}
use mir.Syntax.{w32}
use mir.Val.{SFits}
use Rattle.node.specs.Lists.{member, on}
use Rattle.node.specs.Matrix.{Matrix, width, body, covers, count, signed_price}
use Rattle.rules.proofs.Sums.{total_cong, total_le, total-ones, total-zero, on_one, count_same}
use Rattle.signed.proofs.Exact.{sum_exact, difference_exact}
use Rattle.verify.proofs.Totals.{Joins, signed-price-same, signed-price-none, signed_price_joins, signed-price-fits}
use Rattle.counts.specs.Counts.{plus, more, less, rows_moved}
use Rattle.desk.specs.declared.Way.{Way}
use Rattle.desk.specs.declared.Way.TheVariants.{Adding, Removing}
use Rattle.desk.specs.Desk.{Desk, empty_desk, changes, count_change, new_total, new_mark, moved}
use Rattle.running.specs.Running.{puts}
use Rattle.running.specs.Recount.{off_in, Bounded, Recount}
use Rattle.running.proofs.Sums.{total_joins}
use Rattle.running.proofs.Tally.{Tallied, rows_tallied, rows-counts}

off-same : (m : ℕ) (f g : ℕ → ℕ) → ((i : ℕ) → i < m → f i ≡ g i) → off_in m f ≡ off_in m g
off-same m f g h = total_cong m (λ i. on (not (eqb (f i) 1)) 1) (λ i. on (not (eqb (g i) 1)) 1) (λ i l. rw (h i l))

module _ (p : Matrix) (costs : List ℤ) where
  -- choices that agree on the columns
  pub recount_same : (X Y : ℕ → Bool) (d : Desk) → ((k : ℕ) → k < width p → X k ≡ Y k) → Recount p costs X d → Recount p costs Y d
  recount_same X Y d h w = record {
    marks = λ j l. w.marks j l ∙ h j l;
    covered = λ i l. w.covered i l ∙ count_same p i X Y h;
    off = w.off ∙ off-same p.rows (λ i. count p i X) (λ i. count p i Y) (λ i l. count_same p i X Y h);
    total = w.total ∙ signed-price-same p costs X Y h;
    marked = w.marked;
    counted = w.counted;
  }

  -- a row is covered by a column once at most
  count_le : (X : ℕ → Bool) (i : ℕ) → count p i X ≤ width p
  unfolding count
  count_le X i = omega (
    arith,
    total_le (width p) (λ j. on (X j) (on (covers p i j) 1)) (λ j. 1) (λ j l. go (X j) (covers p i j)),
    total-ones (width p) (λ j. 1) (λ j l. refl),
  )
    where
      go : (a b : Bool) → on a (on b 1) ≤ 1
      go true b = on_one b
      go false b = omega arith

  tallied : (X : ℕ → Bool) (d : Desk) → Recount p costs X d → Tallied p.rows d.counts
  tallied X d w = record {
    sized = w.counted;
    is = w.off ∙ off-same p.rows (λ i. count p i X) (λ i. get_or d.counts.covered i 0) (λ i l. sym (w.covered i l));
  }

  module _ (ok : Bounded p costs) where
    price-fits : (X : ℕ → Bool) → SFits w32 (signed_price p costs X)
    price-fits X = signed-price-fits p costs ok.wide ok.cheap X

    -- a step's changes, by a number that leads away from 1: X before and Y after it differ in column j alone
    change_recount : (X Y : ℕ → Bool) (j mark by : ℕ) → j < width p → not (eqb mark 0) ≡ Y j → ((k : ℕ) → (k ≡ j → ⊥) → X k ≡ Y k) →
        (plus 1 by ≡ 1 → ⊥) → (d : Desk) → Recount p costs X d →
        ((i : ℕ) → cond (member (suc i) (body p j)) (plus (count p i X) by) (count p i X) ≡ count p i Y) → {t : ℤ} → t ≡ signed_price p costs Y →
        Recount p costs Y (record { marks = set d.marks j mark; counts = rows_moved by (body p j) d.counts; total = t })
    change_recount X Y j mark by inside set_is others away d w counts-are total-is =
        let e = rows_moved by (body p j) d.counts in
        let t = rows_tallied by away p.rows ok.tall 0 (body p j) d.counts (ok.rises j) (tallied X d w) in
        let covered : (i : ℕ) → i < p.rows → get_or e.covered i 0 ≡ count p i Y =
        λ i l. rows-counts by p.rows ok.tall 0 (body p j) d.counts (ok.rises j) w.counted i ∙ rw (w.covered i l) (counts-are i) in
        record {
          marks = λ k l. marked k l (eqb k j) refl;
          covered = covered;
          off = t.is ∙ off-same p.rows (λ i. get_or e.covered i 0) (λ i. count p i Y) covered;
          total = total-is;
          marked = simp length-set w.marked;
          counted = t.sized;
        }
      where
        marked : (k : ℕ) → k < width p → (t : Bool) → eqb k j ≡ t → not (eqb (get_or (set d.marks j mark) k 0) 0) ≡ Y k
        marked k l true q =
            let h : k ≡ j = eqb-true k j q in
            rw (h, get_or-set_same d.marks j mark 0 (omega (arith, inside, w.marked, ok.wide))) set_is
        marked k l false q =
            let h : k ≡ j → ⊥ = eqb-false k j q in
            rw (get_or-set_other d.marks j k mark 0 h) (w.marks k l ∙ others k h)

    -- Y is X with column j
    module _ (X Y : ℕ → Bool) (j : ℕ) (joins : Joins X Y j) (inside : j < width p) where
      count_joins : (i : ℕ) → count p i Y ≡ count p i X + on (member (suc i) (body p j)) 1
      unfolding count covers
      count_joins i = total_joins X Y j (width p) (λ k. on (member (suc i) (body p k)) 1) joins inside

      abbrev cost : ℤ
      cost = get_or costs j (pos 0)

      price_joins : signed_price p costs Y ≡ signed_price p costs X +ℤ cost
      price_joins = signed_price_joins p costs X Y j joins inside

      cost-fits : SFits w32 cost
      cost-fits = record { sfits = omega (arith, ok.cheap j inside) }

      sum_fits : SFits w32 (signed_price p costs X +ℤ cost)
      sum_fits = rw (← price_joins) (price-fits Y)

      -- the counts of the body's rows, one more and one less
      up : (m : Bool) (c : ℕ) → c ≤ 256 → cond m (plus c more) c ≡ c + on m 1
      up true c l = omega arith
      up false c l = omega arith

      down : (m : Bool) (c : ℕ) → c ≤ 256 → cond m (plus (c + on m 1) less) (c + on m 1) ≡ c
      down true c l = omega arith
      down false c l = omega arith

      small : (i : ℕ) → count p i X ≤ 256
      small i = omega (arith, count_le X i, ok.wide)

      put_recount : (d : Desk) → Recount p costs X d → Recount p costs Y (moved Adding j (body p j) cost d)
      unfolding moved count_change new_total new_mark
      put_recount d w =
          change_recount X Y j 1 more inside (sym joins.in') joins.others (λ h. let z : ◌≡◌ {A = ℕ} 2 1 = h in omega arith) d w
          (λ i. rw (count_joins i) (up (member (suc i) (body p j)) (count p i X) (small i)))
          (rw w.total (sum_exact (signed_price p costs X) cost (price-fits X) cost-fits sum_fits ∙ sym price_joins))

      lift_recount : (d : Desk) → Recount p costs Y d → Recount p costs X (moved Removing j (body p j) cost d)
      unfolding moved count_change new_total new_mark
      lift_recount d w =
          change_recount Y X j 0 less inside (sym joins.out) (λ k ne. sym (joins.others k ne)) (λ h. let z : ◌≡◌ {A = ℕ} 0 1 = h in omega arith) d w
          (λ i. rw (count_joins i) (down (member (suc i) (body p j)) (count p i X) (small i)))
          (rw (w.total, price_joins) (difference_exact (signed_price p costs X) cost (price-fits X) cost-fits sum_fits))

    -- a step of column j on a desk that has the numbers of X
    module _ (X : ℕ → Bool) (d : Desk) (w : Recount p costs X d) (j : ℕ) (inside : j < width p) where
      -- the choice afterwards
      abbrev next : Bool → ℕ → Bool
      next a k = cond (eqb k j) a (X k)

      same : (a : Bool) → X j ≡ a → (k : ℕ) → X k ≡ next a k
      same a e k = go (eqb k j) refl
        where
          go : (t : Bool) → eqb k j ≡ t → X k ≡ cond t a (X k)
          go true q = rw (eqb-true k j q) e
          go false q = refl

      others : (a : Bool) (k : ℕ) → (k ≡ j → ⊥) → X k ≡ next a k
      others a k ne = rw (ne_eqb k j ne)

      here : (a : Bool) → next a j ≡ a
      here a = rw (eq-eqb j j refl)

      is_in : (t : Bool) → eqb (get_or d.marks j 0) 0 ≡ t → X j ≡ not t
      is_in t e = sym (w.marks j inside) ∙ ap not e

      pub moved_recount : (way : Way) → changes way (get_or d.marks j 0) ≡ true → Recount p costs (next (puts way)) (moved way j (body p j) (get_or costs j (pos 0)) d)
      unfolding changes puts
      moved_recount Adding e = put_recount X (next true) j (record { out = is_in true e; in' = here true; others = others true }) inside d w
      moved_recount Removing e =
          lift_recount (next false) X j (record { out = here false; in' = is_in false (not-true _ e); others = λ k ne. sym (others false k ne) }) inside d w

      pub idle_recount : (way : Way) → changes way (get_or d.marks j 0) ≡ false → Recount p costs (next (puts way)) d
      unfolding changes puts
      idle_recount Adding e = recount_same X (next true) d (λ k l. same true (is_in false e) k) w
      idle_recount Removing e = recount_same X (next false) d (λ k l. same false (is_in true (not-false _ e)) k) w

  -- the empty desk
  count_none : (i : ℕ) → count p i (λ j. false) ≡ 0
  unfolding count
  count_none i = total-zero (width p) _ (λ k l. refl)

  pub empty_recount : Bounded p costs → Recount p costs (λ j. false) (empty_desk p.rows)
  unfolding empty_desk
  empty_recount ok = record {
    marks = λ j l. rw (get_or-replicate {A = ℕ} 256 j 0 0 (omega (arith, l, ok.wide)));
    covered = λ i l. get_or-replicate {A = ℕ} 64 i 0 0 (omega (arith, l, ok.tall)) ∙ sym (count_none i);
    off = sym (total-ones p.rows (λ i. on (not (eqb (count p i (λ j. false)) 1)) 1) (λ i l. rw (count_none i)));
    total = sym (signed-price-none p costs);
    marked = refl;
    counted = refl;
  }
