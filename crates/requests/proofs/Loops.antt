-- The columns that are left to be left, or to be taken, from a place on give what all of them give.
use mathlib.Core.Path.{◌≡◌, refl, ap, sym, ◌∙◌}
use mathlib.Core.Bool.{Bool, true, false, not, cond}
use mathlib.Core.List.{List, [], ◌∷◌}
use Prim.Native.Nat.{ℕ, ◌+◌, ◌-◌, ◌≤◌, ◌<◌}
use native.Mathlib.Omega.{arith}
use lib.Dec.{eqb}
use lib.ListN.{length, get_or, drop, drop_of_length-le}
use borrow.Author.Tests.{eq-eqb, ne_eqb, eqb-true, eqb-false}
use Rattle.std.specs.List.{list_any}
use Rattle.node.specs.declared.Node.{Node}
use Rattle.node.specs.Lists.{keep, member}
use Rattle.node.specs.Matrix.{Matrix, width, IsPlan}
use Rattle.node.specs.Node.{mark, is_free, take, leave}
use Rattle.node.specs.Stored.{matrix_in}
use Rattle.node.proofs.Loops.{drop-step}
use Rattle.rules.specs.declared.Forced.{Forced}
use Rattle.rules.specs.declared.Goal.{Goal}
use Rattle.rules.specs.Tree.{Variant, live, dead}
use Rattle.rules.specs.Agreed.{without, with_all, agreed_start, struck}
use Rattle.rules.specs.Requests.{columns_of}
use Rattle.rules.specs.Goals.{search_for}
use Rattle.rules.proofs.Agreed.{without_good}
use Rattle.rules.proofs.Goals.{WorkableFor, goal_steps}
use Rattle.goals.specs.Taking.{Takes}
use Rattle.rules.proofs.Numbers.{Numbers, numbers-inside}
use Rattle.requests.specs.Numbers.{Takeable, Begins}

-- the columns of a list from place k on
abbrev rest : List ℕ → ℕ → List ℕ
rest js k = columns_of (drop k js)

rest-step : (js : List ℕ) (k : ℕ) → k < length js → rest js k ≡ (get_or js k 0 - 1) ∷ rest js (k + 1)
rest-step js k l = ap columns_of (drop-step js k l)

rest_end : (js : List ℕ) (k : ℕ) → length js ≤ k → rest js k ≡ []
rest_end js k l = ap columns_of (drop_of_length-le js l)

-- at place k, with the columns before it left
pub record Leaving (js : List ℕ) (s₀ s : Node) (k : ℕ) : Type 0 where
  pub left : without (rest js k) s ≡ without (columns_of js) s₀

module _ (js : List ℕ) (s₀ s : Node) (k : ℕ) (w : Leaving js s₀ s k) where
  module _ (l : k < length js) where
    step : without (rest js (k + 1)) (cond (is_free s (get_or js k 0 - 1)) (leave s (get_or js k 0 - 1)) s) ≡ without (columns_of js) s₀
    unfolding without
    step = sym (ap (λ (is : List ℕ). without is s) (rest-step js k l)) ∙ w.left

    pub leaving_free : mark s (get_or js k 0 - 1) ≡ 1 → (t : Node) → t ≡ leave s (get_or js k 0 - 1) → Leaving js s₀ t (k + 1)
    leaving_free h t e = record { left = rw e (rw (eq-eqb (mark s (get_or js k 0 - 1)) 1 h) at step) }

    pub leaving_other : (mark s (get_or js k 0 - 1) ≡ 1 → ⊥) → Leaving js s₀ s (k + 1)
    leaving_other h = record { left = rw (ne_eqb (mark s (get_or js k 0 - 1)) 1 h) at step }

  pub leaving_end : length js ≤ k → s ≡ without (columns_of js) s₀
  unfolding without
  leaving_end l = sym (ap (λ (is : List ℕ). without is s) (rest_end js k l)) ∙ w.left

eqb-turned : (x y : ℕ) → eqb y x ≡ eqb x y
eqb-turned x y = go (eqb x y) refl
  where
    go : (b : Bool) → eqb x y ≡ b → eqb y x ≡ b
    go true e = eq-eqb y x (sym (eqb-true x y e))
    go false e = ne_eqb y x (λ h. eqb-false x y e (sym h))

-- a number that the library finds is one of the list
pub holds_is : (x : ℕ) (js : List ℕ) → list_any (λ y. eqb y x) js ≡ member x js
unfolding member
holds_is x [] = refl
holds_is x (y ∷ ys) = rw (eqb-turned x y, holds_is x ys)

-- the columns that are to be taken, from place k of the agreed list on
abbrev due : List ℕ → List ℕ → ℕ → List ℕ
due js absent k = columns_of (struck (drop k js) absent)

module _ (js absent : List ℕ) (k : ℕ) where
  due_step : k < length js → due js absent k ≡
      let others : List ℕ = struck (drop (k + 1) js) absent in
      columns_of (cond (not (member (get_or js k 0) absent)) (get_or js k 0 ∷ others) others)
  unfolding struck keep
  due_step l = ap (λ (is : List ℕ). columns_of (struck is absent)) (drop-step js k l)

  due_end : length js ≤ k → due js absent k ≡ []
  unfolding struck keep
  due_end l = ap (λ (is : List ℕ). columns_of (struck is absent)) (drop_of_length-le js l)

-- at place k, with the columns before it taken
pub record Taking (g : Goal) (l js absent : List ℕ) (s₀ s : Node) (k : ℕ) : Type 0 where
  pub some : WorkableFor g l s
  pub left : with_all (search_for g (matrix_in l)).join (matrix_in l) (due js absent k) s
      ≡ with_all (search_for g (matrix_in l)).join (matrix_in l) (columns_of (struck js absent)) s₀

module _ (g : Goal) (l js absent : List ℕ) (s₀ s : Node) (k : ℕ) (w : Taking g l js absent s₀ s k) where
  abbrev p : Matrix
  p = matrix_in l

  abbrev o : Variant
  o = search_for g (matrix_in l)

  abbrev whole : Forced
  whole = with_all (search_for g (matrix_in l)).join (matrix_in l) (columns_of (struck js absent)) s₀

  module _ (within : k < length js) where
    abbrev j : ℕ
    j = get_or js k 0 - 1

    module _ (r : Bool) (told : r ≡ member (get_or js k 0) absent) where
      struck_is : (b : Bool) → r ≡ b → due js absent k ≡
          let others : List ℕ = struck (drop (k + 1) js) absent in
          columns_of (cond (not b) (get_or js k 0 ∷ others) others)
      struck_is b e = rw (← e, told) (due_step js absent k within)

      -- an absent column is passed over
      pub taking_struck : r ≡ true → Taking g l js absent s₀ s (k + 1)
      taking_struck e = record { some = w.some; left = rw (struck_is true e) at w.left }

      -- another one is taken, or the node is dead
      module _ (e : r ≡ false) where
        next : cond (is_free s j) (with_all o.join p (due js absent (k + 1)) (take p s j (o.join s j))) (dead s) ≡ whole
        unfolding with_all
        next =
            sym (ap (λ (is : List ℕ). with_all o.join p is s) (struck_is false e)) ∙ w.left

        pub taking_dead : (mark s (get_or js k 0 - 1) ≡ 1 → ⊥) → dead s ≡ whole
        taking_dead h = rw (ne_eqb (mark s j) 1 h) at next

        module _ (n : Numbers (width p) js) (h : mark s (get_or js k 0 - 1) ≡ 1) where
          pub taking_takes : Takes g l s (get_or js k 0 - 1)
          taking_takes = record {
            some = w.some;
            free = record { col = omega (arith, (n k within).0, (n k within).1); is_free_true = eq-eqb (mark s j) 1 h };
          }

          pub taking_next : (t : Node) → t ≡ take p s (get_or js k 0 - 1) (o.join s (get_or js k 0 - 1)) → Taking g l js absent s₀ t (k + 1)
          taking_next t is = record {
            some = rw is ((goal_steps g l w.some.kept).taking s j taking_takes.free w.some);
            left = rw is (rw (eq-eqb (mark s j) 1 h) at next);
          }

  pub taking_end : length js ≤ k → live s ≡ whole
  unfolding with_all
  taking_end h = sym (ap (λ (is : List ℕ). with_all o.join p is s) (due_end js absent k h)) ∙ w.left

-- the absent columns left, then the agreed ones taken
module _ (g : Goal) (l : List ℕ) (s : Node) (agreed absent : List ℕ) (b : Begins g l s agreed absent) where
  pub begins_takeable : (t : Node) → t ≡ without (columns_of absent) s → Takeable g l t agreed
  begins_takeable t e = record {
    some = rw e (without_good (matrix_in l) b.some.kept.small.fits (search_for g (matrix_in l)) (IsPlan (matrix_in l)) (WorkableFor g l)
        (goal_steps g l b.some.kept) (columns_of absent) (numbers-inside _ absent b.absent) s b.some);
    numbered = b.agreed;
  }

  pub begins-is : (t : Node) → t ≡ without (columns_of absent) s → (r : Forced)
      → r ≡ with_all (search_for g (matrix_in l)).join (matrix_in l) (columns_of (struck agreed absent)) t
      → r ≡ agreed_start (search_for g (matrix_in l)).join (matrix_in l) (columns_of (struck agreed absent)) (columns_of absent) s
  unfolding agreed_start
  begins-is t e r h = rw (← e) h
