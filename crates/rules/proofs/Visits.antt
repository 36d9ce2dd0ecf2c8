-- Each visit of the tree is lawful, for any variant that keeps its laws: forcing and reducing lose no completion, a completion has the
-- chosen column or not, and one without it has another free column of the row, which costs the penalty at least.
use mathlib.Core.Path.{◌≡◌, refl, sym, ap, ◌∙◌}
use mathlib.Core.Bool.{Bool, true, false, cond, false≢true, true≢false}
use mathlib.Core.List.{List, [], ◌∷◌}
use mathlib.Core.Logic.{◌⊎◌, inl, inr, ⊎_elim}
use Prim.Native.Nat.{ℕ, ◌+◌, ◌≤◌, ◌<◌}
use native.Mathlib.Omega.{arith}
use lib.Dec.{eqb, ltb, leb}
use borrow.Author.Tests.{eq-eqb, lt-ltb, leb-true, leb-false}
use Rattle.node.specs.declared.Node.{Node}
use Rattle.node.specs.Lists.{on, keep, upto, member, least, pick}
use Rattle.node.specs.Matrix.{Matrix, width, covers, count, IsPlan, chosen, Shows}
use Rattle.node.specs.Stored.{FitsNode}
use Rattle.node.specs.Node.{is_taken, is_open, free_columns, free_of, open_rows, taken, take, leave}
use Rattle.rules.specs.declared.Forced.{Forced}
use Rattle.rules.specs.Search.{Incumbent, reaches, Visit, ended, full}
use Rattle.rules.specs.Tree.{Variant, Penalty, just, most, penalty_of, plus, without_bound, zeros, dearer, penalty, row_before}
use Rattle.rules.specs.Tree.{column_before, branch_on, reduced, living, visit}
use Rattle.rules.specs.Identity.{Completion}
use Rattle.rules.proofs.Walks.{Lawful, reaches-true, at_most_le}
use Rattle.node.proofs.Members.{not_so, member-cases, kept, member-keep, upto_lt, keep_cong, pick-member}
use Rattle.node.proofs.Members.{least_le, keep-short}
use Rattle.rules.proofs.Sums.{total_cong}
use Rattle.rules.proofs.Plans.{Open, FreeIn, not_taken}
use Rattle.rules.proofs.Decide.{decided_le}
use Rattle.rules.proofs.Steps.{take_comp, take_less, leave_comp, leave_out, unleave, leave-less}
use Rattle.rules.proofs.Rows.{size, open_in, in_open, free_in_lem, in_free, some-free, taken_is}
use Rattle.rules.proofs.Forcing.{TwoFree}
use Rattle.rules.proofs.Variants.{ZeroIn, Lowered, TakenOk, Forces, Laws, Follows, lowered_open, lowered-two}
use Rattle.rules.proofs.Variants.{lowered_follows}

penalty-is : (c : ℕ → ℕ) (js : List ℕ) (d : ℕ) → penalty_of c js ≡ just d → d ≡ least c js
unfolding penalty_of least
penalty-is c [] d e = cc
penalty-is c (j ∷ js) d e = cc

-- an allowed completion
abbrev pub Completes : Matrix → ((ℕ → Bool) → Type 0) → Node → (ℕ → Bool) → Type 0
Completes p Ok s X = Ok X × Completion p s X

-- A row's columns at cost 0, and those above.
module _ (o : Variant) (p : Matrix) (t : Node) (i k : ℕ) where
  pub zero_in_lem : member k (zeros o p t i) ≡ true → FreeIn p t i k
  unfolding zeros
  zero_in_lem h = free_in_lem p t i k (kept (λ j. eqb (o.present t j) 0) k (free_of p t i) h).1

  pub in_zero : FreeIn p t i k → o.present t k ≡ 0 → member k (zeros o p t i) ≡ true
  unfolding zeros
  in_zero f e =
      member-keep (λ j. eqb (o.present t j) 0) k (free_of p t i) ∙ rw (eq-eqb (o.present t k) 0 e) (in_free p t i k f)

  in_dearer : FreeIn p t i k → 0 < o.present t k → member k (dearer o p t i) ≡ true
  unfolding dearer
  in_dearer f e =
      member-keep (λ j. ltb 0 (o.present t j)) k (free_of p t i) ∙ rw (lt-ltb 0 (o.present t k) e) (in_free p t i k f)

module _ (p : Matrix) (F : FitsNode p) (o : Variant) (Ok : (ℕ → Bool) → Type 0) (value : (ℕ → Bool) → ℕ) (Good : Node → Type 0)
    (start : Forced) (L : Laws p o start Ok value Good) where
  abbrev pub Law : Node → Incumbent → Visit Node → Type 0
  Law = Lawful Ok value (Shows p Ok value) Good (size p) (Completes p Ok)

  -- without the only column j at cost 0, a row costs the penalty at least
  pays : (t : Node) (i j d : ℕ) → zeros o p t i ≡ j ∷ [] → penalty o p t i ≡ just d → (X : ℕ → Bool) → X j ≡ false
      → (k : ℕ) → FreeIn p t i k → X k ≡ true → d ≤ o.present t k
  unfolding penalty member
  pays t i j d z e X out k f x =
      let only : o.present t k ≡ 0 → k ≡ j = λ y. ⊎_elim (λ q. q) (λ q. absurd (false≢true q))
      (member-cases k j [] (rw z at (in_zero o p t i k f y))) in
      let n : o.present t k ≡ 0 → ⊥ = λ y. true≢false (sym x ∙ ap X (only y) ∙ out) in
      omega (
        arith,
        penalty-is (o.present t) (dearer o p t i) d e,
        least_le (o.present t) (dearer o p t i) k (in_dearer o p t i k f (omega arith)),
      )

  -- A node t that stands for s, forced and, below, reduced.
  module _ (s t : Node) (w : Follows p Ok Good s t) where
    -- column b of the open row i is left
    module _ (i : ℕ) (h : Open p t i) (b : ℕ) (f : FreeIn p t i b) (X : ℕ → Bool) (c : Completion p (leave t b) X) where
      stays : Completion p t X
      stays = unleave p F t b f.free X c

      without-low : (js : List ℕ) → zeros o p t i ≡ js → member b js ≡ true → (q : Penalty) → penalty o p t i ≡ q
          → without_bound t.bound js q ≤ value X
      unfolding without_bound plus member
      without-low [] z m q e = absurd (false≢true m)
      without-low (j ∷ []) z m most e = L.low t w.good X stays
      without-low (j ∷ []) z m (just d) e = go (leb (t.bound + d) (value X)) refl
        where
          out : X j ≡ false
          out = ⊎_elim (λ q. rw q at (leave_out p F t b f.free X c)) (λ q. absurd (false≢true q)) (member-cases b j [] m)

          go : (y : Bool) → leb (t.bound + d) (value X) ≡ y → t.bound + d ≤ value X
          go true r = leb-true (t.bound + d) (value X) r
          go false r = absurd (some-free p t (L.steps.sound t w.good) i h X stays (λ k u x. omega (
            arith,
            leb-false (t.bound + d) (value X) r,
            L.above t w.good X stays k u.free x,
            pays t i j d z e X out k u x,
          )))
      without-low (j ∷ (k ∷ ks)) z m q e = L.low t w.good X stays

    module _ (two : TwoFree p t) (zero : ZeroIn p o t) where
      branch-law : (i : ℕ) → Open p t i → (k : Incumbent) (js : List ℕ) → zeros o p t i ≡ js
          → Law s k (branch_on o p t (penalty o p t i) js)
      unfolding branch_on free_of member
      branch-law i h k [] z =
          let r = zero i h (omega (arith, two i h)) in
          absurd (false≢true (rw z at (in_zero o p t i r.0 r.1 r.2)))
      branch-law i h k (j ∷ js) z = record {
        good_a = L.steps.taking t b f.free w.good;
        good_z = L.steps.leaving t b f.free w.good;
        less_a = omega (arith, w.less, take_less p F t b f.free (o.join t b));
        less_z = omega (arith, w.less, leave-less p F t b f.free);
        two = omega (arith, w.less, two i h, keep-short (covers p i) (free_columns p t));
        cases = λ X c. branches X c.0 (w.comp X c.0 c.1) (X b) refl;
        low = λ X c. without-low i h b f X c.1 (j ∷ js) z m (penalty o p t i) refl;
      }
        where
          b : ℕ
          b = pick (column_before o p t) j js

          m : member b (j ∷ js) ≡ true
          m = pick-member (column_before o p t) j js

          f : FreeIn p t i b
          f = zero_in_lem o p t i b (rw z m)

          branches : (X : ℕ → Bool) → Ok X → Completion p t X → (x : Bool) → X b ≡ x
              → Completes p Ok (take p t b (o.join t b)) X ⊎ Completes p Ok (leave t b) X
          branches X a c true e = inl (a, take_comp p F t b f.free (o.join t b) X c e)
          branches X a c false e = inr (a, leave_comp p F t b f.free X c e)

      reduced_law : (k : Incumbent) (i : ℕ) (is : List ℕ) → ((j : ℕ) → member j (i ∷ is) ≡ true → Open p t j)
          → Law s k (reduced o p t k i is)
      unfolding reduced
      reduced_law k i is h = go (reaches t.bound k) refl
        where
          r : ℕ
          r = pick (row_before o p t) i is

          go : (x : Bool) → reaches t.bound k ≡ x → Law s k (cond x ended (branch_on o p t (penalty o p t r) (zeros o p t r)))
          go true e = λ X c. at_most_le k (reaches-true k t.bound e) (L.low t w.good X (w.comp X c.0 c.1))
          go false e = branch-law r (h r (pick-member (row_before o p t) i is)) k (zeros o p t r) refl

    -- with no open row the taken columns are a plan, whose value is the bound
    taken-listed : keep (chosen (taken p t)) (upto (width p)) ≡ taken p t
    unfolding taken
    taken-listed =
        keep_cong (chosen (taken p t)) (is_taken t) (upto (width p)) (λ k m. taken_is p t k (upto_lt (width p) k m))

    full-plan : open_rows p t ≡ [] → IsPlan p (chosen (taken p t))
    unfolding count member
    full-plan e i l =
        let closed : is_open t i ≡ false = not_so (λ h. false≢true (rw e at (in_open p t i (record { row = l; is_open_true = h })))) in
        let v : ℕ → ℕ = λ k. on (covers p i k) 1 in
        omega (
          arith,
          rw closed at ((L.steps.sound t w.good).once i l),
          total_cong (width p) (λ k. on (chosen (taken p t) k) (v k)) (λ k. on (is_taken t k) (v k)) (λ k m. rw (taken_is p t k m)),
        )

    full_law : TakenOk p Ok t → open_rows p t ≡ [] → (k : Incumbent) → Law s k (full t.bound (taken p t))
    full_law a e k =
        let X : ℕ → Bool = chosen (taken p t) in
        let h : IsPlan p X = full-plan e in
        let c : Completion p t X = record { plan = h; agrees = λ k l f. taken_is p t k l } in
        let v : value X ≡ t.bound = L.exact t w.good X c (λ k f. taken_is p t k f.col ∙ not_taken t k f.is_free_true) in
        (record { listed = taken-listed; ok = a h; priced = v }, λ Y d. L.low t w.good Y (w.comp Y d.0 d.1))

  living_law : (s t : Node) → Follows p Ok Good s t → TwoFree p t → TakenOk p Ok t
      → (k : Incumbent) (is : List ℕ) → open_rows p t ≡ is → Law s k (living o p t k is)
  unfolding living
  living_law s t w two a k [] e = full_law s t w a e k
  living_law s t w two a k (i ∷ is) e =
      let u : Node = o.lowered t in
      let r : Lowered p o Good t u = L.steps.reducing t w.good in
      reduced_law s u (lowered_follows p o Good t u r Ok s w) (lowered-two p o Good t u r two) r.zero k i is
      (λ j h. lowered_open p o Good t u r j (open_in p t j (rw e h)))

  pub visit_law : (s : Node) (k : Incumbent) → Good s → Law s k (visit o p s k)
  unfolding visit
  visit_law s k g = go (o.settle s).alive refl
    where
      t : Node
      t = (o.settle s).node

      f : Forces p Ok Good s (o.settle s)
      f = L.steps.forcing s g

      follows : Follows p Ok Good s t
      follows = record { good = f.good; less = decided_le p s t f.decides; comp = λ X a c. (f.comp X a c).1 }

      go : (x : Bool) → (o.settle s).alive ≡ x → Law s k (cond x (living o p t k (open_rows p t)) ended)
      go true e = living_law s t follows (f.two e) (f.full e) k (open_rows p t) refl
      go false e = λ X c. absurd (true≢false (sym (f.comp X c.0 c.1).0 ∙ e))
