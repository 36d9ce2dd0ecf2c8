-- What a node comes to when it is settled, in the rules' terms: it ends, is a plan, or branches, unless its bound reaches the incumbent. This
-- holds of any search whose steps keep their laws, whatever it settles a node by.
use mathlib.Core.Path.{◌≡◌, refl, ap, sym, ◌∙◌}
use mathlib.Core.Bool.{Bool, true, false, cond, false≢true, true≢false}
use mathlib.Core.List.{List, [], ◌∷◌}
use Prim.Native.Nat.{ℕ, ◌≤◌}
use native.Mathlib.Omega.{arith}
use Rattle.node.specs.declared.Node.{Node}
use Rattle.node.specs.Matrix.{Matrix}
use Rattle.node.specs.Node.{open_rows, taken}
use Rattle.rules.specs.Search.{Incumbent, reaches, ended, full}
use Rattle.rules.specs.Tree.{Variant, reduced, living, visit}
use Rattle.rules.proofs.Rows.{size}
use Rattle.rules.proofs.Decide.{decided_le}
use Rattle.rules.proofs.Variants.{Forces, Lowered, Stepping, lowered-size, lowered-two}
use Rattle.visit.specs.declared.Settled.{Settled}
use Rattle.visit.specs.Settled.{settled_by, settled}
use Rattle.tree.specs.Walks.{Splits, branches_of, branches}

-- x is the node s settled
pub record Settles (o : Variant) (p : Matrix) (s : Node) (x : Settled) : Type 0 where
  pub less : size p x.node ≤ size p s
  pub dead : x.alive ≡ false → (k : Incumbent) → visit o p s k ≡ ended
  pub plan : x.alive ≡ true → x.full ≡ true → (k : Incumbent) → visit o p s k ≡ full x.node.bound (taken p x.node)
  pub splits : x.alive ≡ true → x.full ≡ false → Splits o p x.node
  pub going : x.alive ≡ true → x.full ≡ false → (k : Incumbent) →
      visit o p s k ≡ cond (reaches x.node.bound k) ended (branches o p x.node)

module _ (o : Variant) (p : Matrix) (Ok : (ℕ → Bool) → Type 0) (Good : Node → Type 0) (S : Stepping p o Ok Good) (s : Node) (g : Good s) where
  t : Node
  t = (o.settle s).node

  forces : Forces p Ok Good s (o.settle s)
  forces = S.forcing s g

  less : size p t ≤ size p s
  unfolding t
  less = decided_le p s t forces.decides

  n : Node
  n = o.lowered t

  lowers : Lowered p o Good t n
  unfolding t n
  lowers = S.reducing t forces.good

  by : (b : Bool) → (o.settle s).alive ≡ b → (k : Incumbent) → visit o p s k ≡ cond b (living o p t k (open_rows p t)) ended
  unfolding visit t
  by b e k = ap (λ (x : Bool). cond x (living o p t k (open_rows p t)) ended) e

  rows_same : open_rows p n ≡ open_rows p t
  unfolding open_rows
  rows_same = rw lowers.same_row

  -- the open rows i ∷ is of a node that is alive
  module _ (e : (o.settle s).alive ≡ true) (i : ℕ) (is : List ℕ) (q : open_rows p t ≡ i ∷ is) where
    open_here : Splits o p n
    unfolding t
    open_here = record {
      two = lowered-two p o Good t n lowers (forces.two e);
      zero = lowers.zero;
      i = i;
      is = is;
      opened = rows_same ∙ q;
    }

    visit_here : (k : Incumbent) → visit o p s k ≡ cond (reaches n.bound k) ended (branches o p n)
    unfolding living reduced branches_of n
    visit_here k =
        by true e k ∙ ap (living o p t k) q
        ∙ ap (λ (is : List ℕ). cond (reaches n.bound k) ended (branches_of o p n is)) (sym (rows_same ∙ q))

  cases : (b : Bool) → (o.settle s).alive ≡ b → (is : List ℕ) → open_rows p t ≡ is → Settles o p s (settled_by o b t is)
  unfolding settled_by living t n
  cases false e is q = record {
    less = less;
    dead = λ h k. by false e k;
    plan = λ h. absurd (false≢true h);
    splits = λ h. absurd (false≢true h);
    going = λ h. absurd (false≢true h);
  }
  cases true e [] q = record {
    less = less;
    dead = λ h. absurd (true≢false h);
    plan = λ h f k. by true e k ∙ ap (living o p t k) q;
    splits = λ h f. absurd (true≢false f);
    going = λ h f. absurd (true≢false f);
  }
  cases true e (i ∷ is) q = record {
    less = omega (arith, less, lowered-size p o Good t n lowers);
    dead = λ h. absurd (true≢false h);
    plan = λ h f. absurd (false≢true f);
    splits = λ h f. open_here e i is q;
    going = λ h f. visit_here e i is q;
  }

  pub settles : Settles o p s (settled o p s)
  unfolding settled t
  settles = cases (o.settle s).alive refl (open_rows p t) refl
