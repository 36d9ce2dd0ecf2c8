-- The sum search keeps the laws of a variant, by the identity: with it the bound is below every completion's price, also with the cost of
-- one of its free columns, and is the price of a completion that has none. So the sum search meets demand 3. The laws hold by any
-- comparison of candidates.
use mathlib.Core.Path.{◌≡◌, refl, sym, ◌∙◌}
use mathlib.Core.Bool.{Bool, true, false, ◌&&◌}
use mathlib.Core.List.{List}
use Prim.Native.Nat.{ℕ}
use native.Mathlib.Omega.{arith}
use Rattle.node.specs.declared.Node.{Node}
use Rattle.node.specs.Lists.{on}
use Rattle.node.specs.Matrix.{Matrix, width, IsPlan, price}
use Rattle.node.specs.Node.{is_free, cost_at, root, take, leave}
use Rattle.node.specs.Stored.{FitsNode}
use Rattle.rules.specs.Reduce.{Comparison, precedes, reduce_with}
use Rattle.rules.specs.Tree.{joined, sum_by, sum, live, answer}
use Rattle.rules.specs.Demand.{Demand3}
use Rattle.rules.proofs.Sums.{total-one, total-zero}
use Rattle.rules.proofs.Plans.{Free, Sound, root_comp}
use Rattle.rules.proofs.Variants.{Stepping, Laws, plain_forces}
use Rattle.rules.proofs.Demand.{demand_3}
use Rattle.rules.proofs.Costs.{Good, root_good, take_good, leave_good}
use Rattle.rules.proofs.Reducing.{Lowers, Finished, least-free, reduce-done, good_lowers}

none-at : (f x : Bool) (v : ℕ) → (f ≡ true → x ≡ false) → on (f && x) v ≡ 0
none-at true x v h = rw (h refl)
none-at false x v h = refl

module _ (before : Comparison) (p : Matrix) (F : FitsNode p) where
  -- the steps keep what taking, leaving and lowering keep
  pub sum_steps : (G : Node → Type 0) → ((s : Node) → G s → Sound p s)
      → ((s : Node) (j : ℕ) → Free p s j → G s → G (take p s j (joined s j)))
      → ((s : Node) (j : ℕ) → Free p s j → G s → G (leave s j)) → Lowers p G → Stepping p (sum_by before p) (IsPlan p) G
  sum_steps G sound taking leaving lowers = record {
    sound = sound;
    forcing = plain_forces p F joined G sound taking;
    taking = taking;
    leaving = leaving;
    reducing = λ s g.
        let t : Node = (reduce_with before p s).node in
        let r : Finished p G s t = reduce-done before p F G lowers s g in
        record {
          good = r.good;
          same_column = r.same_column;
          same_row = r.same_row;
          zero = λ i o l. let k = least-free p t i l in (k.0, k.1, sym k.2 ∙ r.done i o);
        };
  }

module _ (before : Comparison) (p : Matrix) (F : FitsNode p) (cs : List ℕ) where
  pub sum_laws : Laws p (sum_by before p) (live (root p cs)) (IsPlan p) (price p cs) (Good p cs)
  sum_laws = record {
    steps =
        sum_steps before p F (Good p cs) (λ s g. g.sound) (λ s j f g. take_good p F s j f g) (λ s j f g. leave_good p F s j f g)
        (good_lowers p F cs);
    start_good = λ e. root_good p cs F;
    start_comp = λ X h. (refl, root_comp p F cs X h);
    low = λ s g X c. omega (arith, g.identity X c);
    above = λ s g X c k f x. omega (
      arith,
      g.identity X c,
      rw (f.is_free_true, x) at (total-one (width p) k (λ k. on (is_free s k && X k) (cost_at s k)) f.col),
    );
    exact = λ s g X c h. omega (
      arith,
      g.identity X c,
      total-zero (width p) (λ k. on (is_free s k && X k) (cost_at s k))
          (λ k l. none-at (is_free s k) (X k) (cost_at s k) (λ e. h k (record { col = l; is_free_true = e }))),
    );
  }

module _ (p : Matrix) (F : FitsNode p) (cs : List ℕ) where
  pub sum_demand_3 : (limit : ℕ) → Demand3 p (sum p) (live (root p cs)) (IsPlan p) (price p cs) limit (answer (sum p) p (live (root p cs)) limit)
  sum_demand_3 = demand_3 p F (sum p) (IsPlan p) (price p cs) (Good p cs) (live (root p cs)) (sum_laws precedes p F cs)
