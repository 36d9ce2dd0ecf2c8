-- Demand 3 holds of every instance and node limit, for any variant of the search that keeps its laws: the walk of lawful visits keeps
-- only what is allowed and ends with the cheapest, and the answer says what it ended with.
use mathlib.Core.Path.{◌≡◌, refl, sym, ◌∙◌}
use mathlib.Core.Bool.{Bool, true, false, cond, false≢true, true≢false}
use mathlib.Core.List.{List, [], ◌∷◌}
use mathlib.Core.Logic.{◌↔◌}
use Prim.Native.Nat.{ℕ, zero, suc, ◌^◌, ◌≤◌, ◌<◌}
use native.Mathlib.Omega.{arith}
use Rattle.node.specs.declared.Node.{Node}
use Rattle.node.specs.Lists.{is_empty}
use Rattle.node.specs.Matrix.{Matrix, width, chosen, Shows}
use Rattle.node.specs.Stored.{FitsNode}
use Rattle.node.specs.Node.{open_rows}
use borrow.Author.Tests.{le-ltb}
use Rattle.rules.specs.declared.Forced.{Forced}
use Rattle.rules.specs.Search.{Incumbent, nothing, Walk, enter, walk, finished, answer_of, nodes, after, Answer, best, none, stopped, shown_by}
use Rattle.rules.specs.Search.{nodes_of, is_none, is_stopped}
use Rattle.rules.specs.Limited.{fresh, limited, answer_from}
use Rattle.rules.specs.Tree.{Variant, live, visit, full_tree, root_bound, answer}
use Rattle.rules.specs.Identity.{Completion}
use Rattle.rules.specs.Demand.{Demand3}
use Rattle.rules.proofs.Walks.{lone, Valid, Report, lone_report, walk_report, Meets, answer-meets, walk_step}
use Rattle.rules.proofs.Limits.{answer-limited}
use Rattle.rules.proofs.Rows.{size, size_fits}
use Rattle.rules.proofs.Variants.{Lowered, Forces, Laws, lowered_comp}
use Rattle.rules.proofs.Visits.{Completes, visit_law}

module _ (p : Matrix) (F : FitsNode p) (o : Variant) (Ok : (ℕ → Bool) → Type 0) (value : (ℕ → Bool) → ℕ) (Good : Node → Type 0)
    (start : Forced) (L : Laws p o start Ok value Good) where
  report : Report Ok value (Shows p Ok value) Good (size p) (Completes p Ok) start.node nothing (full_tree o p start)
  unfolding full_tree
  report = go start.alive refl
    where
      s : Node
      s = start.node

      go : (b : Bool) → start.alive ≡ b → Report Ok value (Shows p Ok value) Good (size p) (Completes p Ok) s nothing
          (cond b (walk (visit o p) (suc (width p)) s nothing) lone)
      go true e =
          walk_report Ok value (Shows p Ok value) Good (size p) (Completes p Ok) (visit o p) (visit_law p F o Ok value Good start L)
          (suc (width p)) s nothing (L.start_good e) (size_fits p s) tt
      go false e =
          lone_report Ok value (Shows p Ok value) Good (size p) (Completes p Ok) s
          (λ X c. true≢false (sym (L.start_comp X c.0).0 ∙ e))

  bound-low : (X : ℕ → Bool) → Ok X → root_bound o p start ≤ value X
  unfolding root_bound is_empty
  bound-low X h = go (open_rows p t)
    where
      s : Node
      s = start.node

      t : Node
      t = (o.settle s).node

      f : Forces p Ok Good s (o.settle s)
      f = L.steps.forcing s (L.start_good (L.start_comp X h).0)

      c : Completion p t X
      c = (f.comp X h (L.start_comp X h).1).1

      go : (is : List ℕ) → cond (is_empty is) t.bound (o.lowered t).bound ≤ value X
      go [] = L.low t f.good X c
      go (i ∷ is) =
          let u : Node = o.lowered t in
          let r : Lowered p o Good t u = L.steps.reducing t f.good in
          L.low u r.good X (lowered_comp p o Good t u r X c)

  few-nodes : (n : ℕ) → width p ≡ n → 1 ≤ n → suc (nodes (full_tree o p start)) ≤ 2 ^ n
  few-nodes zero e l = absurd (omega arith)
  few-nodes (suc m) e l = report.few m (omega (arith, size_fits p start.node))

  -- the demand's sentences, by cases on the answer x
  module _ (limit : ℕ) where
    abbrev Holds : Answer → Type 0
    Holds x = Meets Ok value (Shows p Ok value) (full_tree o p start) (root_bound o p start) limit x

    shows : (x : Answer) → Holds x → Valid Ok value (Shows p Ok value) (shown_by x)
    unfolding shown_by
    shows (best c b n js) m = m.shown
    shows (none n) m = tt
    shows (stopped k b n) m = m.shown

    nones : (x : Answer) → Holds x → is_stopped x ≡ false → (is_none x ≡ true) ↔ ((X : ℕ → Bool) → Ok X → ⊥)
    unfolding is_stopped is_none
    nones (best c b n js) m e = (λ h. absurd (false≢true h), λ h. absurd (h (chosen js) m.shown.ok))
    nones (none n) m e = (λ h. m.no_plan, λ h. refl)
    nones (stopped k b n) m e = absurd (true≢false e)

    stops : (x : Answer) → Holds x → (is_stopped x ≡ true) ↔ (limit < nodes (full_tree o p start))
    unfolding is_stopped
    stops (best c b n js) m = (λ h. absurd (false≢true h), λ l. absurd (omega (arith, m.within)))
    stops (none n) m = (λ h. absurd (false≢true h), λ l. absurd (omega (arith, m.within)))
    stops (stopped k b n) m = (λ h. m.beyond, λ l. refl)

    at_limit : (x : Answer) → Holds x → is_stopped x ≡ true → (nodes_of x ≡ limit) × (shown_by x ≡ after (full_tree o p start) limit)
    unfolding is_stopped nodes_of shown_by
    at_limit (best c b n js) m e = absurd (false≢true e)
    at_limit (none n) m e = absurd (false≢true e)
    at_limit (stopped k b n) m e = (m.count, m.kept)

    counts : (x : Answer) → Holds x → is_stopped x ≡ false → nodes_of x ≡ nodes (full_tree o p start)
    unfolding is_stopped nodes_of
    counts (best c b n js) m e = m.count
    counts (none n) m e = m.count
    counts (stopped k b n) m e = absurd (true≢false e)

    holds : Holds (answer o p start limit)
    unfolding answer
    holds =
        answer-meets Ok value (Shows p Ok value) (full_tree o p start) (root_bound o p start) limit report.falls
        (λ X h. report.cheapest X (h, (L.start_comp X h).1))

  pub demand_3 : (limit : ℕ) → Demand3 p o start Ok value limit (answer o p start limit)
  unfolding shown_by
  demand_3 limit =
      let x : Answer = answer o p start limit in
      let m : Holds limit x = holds limit in
      let told_best : (c b n : ℕ) (js : List ℕ) → x ≡ best c b n js → Holds limit (best c b n js) = λ c b n js e. rw e at m in
      let told_stopped : (k : Incumbent) (b n : ℕ) → x ≡ stopped k b n → Holds limit (stopped k b n) = λ k b n e. rw e at m in
      record {
        shown = λ c js e. rw e at (shows limit x m);
        best_shown = λ c b n js e. rw e;
        cheapest = λ c b n js e. (told_best c b n js e).cheapest;
        best_bound = λ c b n js e. (told_best c b n js e).bound;
        stopped_bound = λ k b n e. (told_stopped k b n e).bound;
        bound = bound-low;
        none_exactly = nones limit x m;
        stopped_exactly = stops limit x m;
        stopped_count = λ e. (at_limit limit x m e).0;
        stopped_shows = λ e. (at_limit limit x m e).1;
        count = counts limit x m;
        few = λ l. omega (arith, few-nodes (width p) refl l);
      }

  -- the fuel of the definition cuts nothing: the tree below a good node is the node entered, and the trees of its branches
  abbrev pub tree : Node → Incumbent → Walk
  tree s k = walk (visit o p) (suc (width p)) s k

  pub tree_step : (s : Node) (k : Incumbent) → Good s → tree s k ≡ enter k (visit o p s k) tree
  tree_step s k g =
      walk_step Ok value (Shows p Ok value) Good (size p) (Completes p Ok) (visit o p) (visit_law p F o Ok value Good start L)
      (suc (width p)) s k g (size_fits p s)

-- for the search: the tally of the walk within the limit gives the answer
pub limited-answer : (o : Variant) (p : Matrix) (s : Node) (b limit : ℕ)
    → answer_from (limited (visit o p) (suc (width p)) s (fresh limit)) b ≡ answer_of (full_tree o p (live s)) b limit
unfolding full_tree
limited-answer o p s b limit = answer-limited (visit o p) (suc (width p)) s b limit

-- a dead start: no plan, and one node
pub dead-answer : (o : Variant) (p : Matrix) (start : Forced) → start.alive ≡ false → (limit : ℕ) → 1 ≤ limit
    → answer o p start limit ≡ none 1
unfolding answer full_tree answer_of finished
dead-answer o p start e limit l = rw (e, le-ltb limit 1 l)

-- a first node that forcing finds dead: the same, whatever bound it has
pub dead-settled : (o : Variant) (p : Matrix) (s : Node) → (o.settle s).alive ≡ false → (b limit : ℕ) → 1 ≤ limit
    → answer_of (full_tree o p (live s)) b limit ≡ none 1
unfolding full_tree walk visit enter answer_of finished
dead-settled o p s e b limit l = rw (e, le-ltb limit 1 l)
