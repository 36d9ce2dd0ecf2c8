-- Demand 3 holds of the sum search by any comparison of candidates. So two answers, by any two comparisons and within any two node limits,
-- are alike: what demand 3 says of none and of the price of best speaks of all plans, and of no tree.
use mathlib.Core.Path.{◌≡◌, refl, sym}
use mathlib.Core.Bool.{Bool, true, false, false≢true}
use mathlib.Core.List.{List}
use mathlib.Core.Logic.{◌↔◌}
use Prim.Native.Nat.{ℕ}
use native.Mathlib.Omega.{arith}
use Rattle.node.specs.Matrix.{Matrix, price, chosen}
use Rattle.node.specs.Stored.{FitsNode}
use Rattle.rules.specs.Reduce.{Comparison}
use Rattle.rules.specs.Search.{Answer}
use Rattle.rules.specs.Tree.{sum_by}
use Rattle.rules.specs.Demand.{Demand3}
use Rattle.rules.specs.Requests.{Requests, requested, Granted}
use Rattle.rules.specs.Comparisons.{start_by, answer_by, Alike}
use Rattle.rules.proofs.Costs.{Good}
use Rattle.rules.proofs.Sum.{sum_laws}
use Rattle.rules.proofs.Requests.{Askable, requested_demand_3}

-- demand 3 of an answer, by a comparison
abbrev DemandBy : Comparison → Matrix → List ℕ → Requests → ℕ → Answer → Type 0
DemandBy before p cs q limit x = Demand3 p (requested p q (sum_by before p)) (start_by before p cs q) (Granted p q) (price p cs) limit x

pub comparison_demand_3 : (before : Comparison) (p : Matrix) → FitsNode p → (cs : List ℕ) (q : Requests) → Askable p q → (limit : ℕ)
    → DemandBy before p cs q limit (answer_by before p cs q limit)
comparison_demand_3 before p F cs q a =
    requested_demand_3 p F cs q a (sum_by before p) (price p cs) (Good p cs) (sum_laws before p F cs)

-- two truths of one statement
same_truth : {A : Type 0} (a b : Bool) → (a ≡ true) ↔ A → (b ≡ true) ↔ A → a ≡ b
same_truth true b f g = sym (g.1 (f.0 refl))
same_truth false true f g = absurd (false≢true (f.1 (g.0 refl)))
same_truth false false f g = refl

pub alike : (before other : Comparison) (p : Matrix) (cs : List ℕ) (q : Requests) (limit further : ℕ) (x y : Answer)
    → DemandBy before p cs q limit x → DemandBy other p cs q further y → Alike p cs q before other x y
alike before other p cs q limit further x y f g = record {
  none_alike = λ s t. same_truth _ _ (f.none_exactly s) (g.none_exactly t);
  price_alike = λ c b n js d e m ks u v.
      let i = f.shown c js (f.best_shown c b n js u) in
      let k = g.shown d ks (g.best_shown d e m ks v) in
      omega (arith, f.cheapest c b n js u (chosen ks) k.ok, g.cheapest d e m ks v (chosen js) i.ok, i.priced, k.priced);
  bound = f.bound;
  other_bound = g.bound;
}

-- any two comparisons, any two node limits
pub comparisons_alike : (before other : Comparison) (p : Matrix) → FitsNode p → (cs : List ℕ) (q : Requests) → Askable p q
    → (limit further : ℕ) → Alike p cs q before other (answer_by before p cs q limit) (answer_by other p cs q further)
comparisons_alike before other p F cs q a limit further =
    alike before other p cs q limit further _ _ (comparison_demand_3 before p F cs q a limit)
    (comparison_demand_3 other p F cs q a further)
