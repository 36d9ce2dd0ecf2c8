-- What no criterion of reducing changes (02, P4): a statement about two answers for the same matrix, costs and requests, x of the search
-- that reduces by one comparison of candidates, y of the one that reduces by another, each within a node limit of its own.
use Rattle.std.specs.Prelude.{◌≡◌, Bool, false, List, ℕ, ◌≤◌}
use Rattle.node.specs.Matrix.{Matrix, price}
use Rattle.node.specs.Node.{root}
use Rattle.rules.specs.declared.Forced.{Forced}
use Rattle.rules.specs.Reduce.{Comparison}
use Rattle.rules.specs.Search.{Answer, best, is_none, is_stopped}
use Rattle.rules.specs.Tree.{sum_by, root_bound, answer}
use Rattle.rules.specs.Requests.{Requests, begun, requested, Granted}

-- the search by a comparison: its start, its answer, and the root's lower bound (01: root floor)
abbrev pub start_by : Comparison → Matrix → List ℕ → Requests → Forced
start_by before p costs q = begun (sum_by before p) p q (root p costs)

abbrev pub answer_by : Comparison → Matrix → List ℕ → Requests → ℕ → Answer
answer_by before p costs q limit = answer (requested p q (sum_by before p)) p (start_by before p costs q) limit

abbrev pub bound_by : Comparison → Matrix → List ℕ → Requests → ℕ
bound_by before p costs q = root_bound (requested p q (sum_by before p)) p (start_by before p costs q)

pub record Alike (p : Matrix) (costs : List ℕ) (q : Requests) (before other : Comparison) (x y : Answer) : Type 0 where
  -- Where neither answer is stopped, both are none or neither is.
  pub none_alike : is_stopped x ≡ false → is_stopped y ≡ false → is_none x ≡ is_none y
  -- Where both are best, the price is the same.
  pub price_alike : (c b n : ℕ) (js : List ℕ) (d e m : ℕ) (ks : List ℕ) → x ≡ best c b n js → y ≡ best d e m ks → c ≡ d
  -- No plan that counts, by what is asked, is priced below the root floor of either.
  pub bound : (X : ℕ → Bool) → Granted p q X → bound_by before p costs q ≤ price p costs X
  pub other_bound : (X : ℕ → Bool) → Granted p q X → bound_by other p costs q ≤ price p costs X
