-- Settling with pairs keeps the laws of any variant: each step takes or leaves a free column as every allowed completion does, and where
-- nothing changed, no pair asks anything of the node, so its taken columns obey the pairs.
use mathlib.Core.Path.{◌≡◌, refl, sym, ◌∙◌, fun_ext}
use mathlib.Core.Bool.{Bool, true, false, not, cond, ◌&&◌, ◌||◌, false≢true, true≢false}
use mathlib.Core.List.{List, [], ◌∷◌}
use Prim.Native.Nat.{ℕ, zero, suc, ◌<◌}
use native.Mathlib.Omega.{arith}
use Rattle.node.specs.declared.Node.{Node}
use Rattle.node.specs.Matrix.{Matrix, width, chosen}
use Rattle.node.specs.Stored.{FitsNode}
use Rattle.node.specs.Node.{is_free, is_taken, taken, take, leave}
use Rattle.rules.specs.declared.Forced.{Forced}
use Rattle.rules.specs.declared.PairAsked.{PairAsked}
use Rattle.rules.specs.declared.PairAsked.TheVariants.{TakeSecond, Dead, LeaveFirst, Nothing}
use Rattle.rules.specs.Tree.{Variant, live, dead}
use Rattle.rules.specs.Identity.{Completion}
use Rattle.rules.specs.Pairs.{Pair, pair_asked, Passed, if_alive, if_changed, pass_on, pass, paired_by, paired, with_pairs, Each, Obeys, Paired}
use Rattle.node.proofs.Members.{not_so}
use Rattle.rules.proofs.Plans.{Free, not_free}
use Rattle.rules.proofs.Decide.{Decided, stays, decided_then, decided_le}
use Rattle.rules.proofs.Steps.{take_decides, take_comp, take_less, leave_decides, leave_comp, leave-less}
use Rattle.rules.proofs.Rows.{size, size_fits, taken_is}
use Rattle.rules.proofs.Variants.{Forces, Lowered, Stepping, Laws}

-- what is asked of the list: columns of the matrix
abbrev pub PairsInside : Matrix → List Pair → Type 0
PairsInside p qs = Each (λ q. (q.first < width p) × (q.second < width p)) qs

-- why a pair asks something, and what holds where it does not
abbrev pub Why : Node → Pair → PairAsked → Type 0
Why s q TakeSecond = (is_taken s q.first ≡ true) × (is_free s q.second ≡ true)
Why s q Dead = (is_taken s q.first ≡ true) × (is_free s q.second ≡ false) × (is_taken s q.second ≡ false)
Why s q LeaveFirst = (is_free s q.first ≡ true) × (is_free s q.second ≡ false) × (is_taken s q.second ≡ false)
Why s q Nothing = is_taken s q.first ≡ true → is_taken s q.second ≡ true

pub asked_why : (s : Node) (q : Pair) → Why s q (pair_asked s q)
unfolding pair_asked
asked_why s q = go (is_taken s q.first) (is_free s q.second) (is_taken s q.second) (is_free s q.first) refl refl refl refl
  where
    go : (t f u e : Bool) → is_taken s q.first ≡ t → is_free s q.second ≡ f → is_taken s q.second ≡ u → is_free s q.first ≡ e
        → Why s q (cond (t && f) TakeSecond (cond (t && not (f || u)) Dead (cond (e && not (f || u)) LeaveFirst Nothing)))
    go true true u e a b c d = (a, b)
    go true false true true a b c d = λ h. c
    go true false true false a b c d = λ h. c
    go true false false e a b c d = (a, b, c)
    go false f u false a b c d = λ h. absurd (true≢false (sym h ∙ a))
    go false true u true a b c d = λ h. absurd (true≢false (sym h ∙ a))
    go false false true true a b c d = λ h. c
    go false false false true a b c d = (d, b, c)

-- r stands for s where u does
module _ (p : Matrix) (Ok : (ℕ → Bool) → Type 0) (Good : Node → Type 0) (s u : Node) (r : Forced) where
  forces_after : ((k : ℕ) → k < width p → Decided s u k)
      → ((X : ℕ → Bool) → Ok X → Completion p s X → Completion p u X) → Forces p Ok Good u r → Forces p Ok Good s r
  forces_after d c f = record {
    good = f.good;
    decides = λ k m. decided_then (d k m) (f.decides k m);
    comp = λ X a h. f.comp X a (c X a h);
    two = f.two;
    full = f.full;
  }

-- a node that has no allowed completion is dead, as it is or after steps
module _ (p : Matrix) (Ok : (ℕ → Bool) → Type 0) (Good : Node → Type 0) (s u : Node) where
  dead_forces : Good u → ((k : ℕ) → k < width p → Decided s u k)
      → ((X : ℕ → Bool) → Ok X → Completion p s X → ⊥) → Forces p Ok Good s (dead u)
  dead_forces g d h = record {
    good = g;
    decides = d;
    comp = λ X a c. absurd (h X a c);
    two = λ e. absurd (false≢true e);
    full = λ e. absurd (false≢true e);
  }

module _ (p : Matrix) (F : FitsNode p) (o : Variant) (Ok : (ℕ → Bool) → Type 0) (Good : Node → Type 0) (S : Stepping p o Ok Good) where
  -- what going through some pairs comes to, if anything changed before or not
  record Passes (qs : List Pair) (s : Node) (c : Bool) (r : Passed) : Type 0 where
    good : Good r.node
    decides : (k : ℕ) → k < width p → Decided s r.node k
    comp : (X : ℕ → Bool) → Obeys qs X → Completion p s X → (r.alive ≡ true) × Completion p r.node X
    fewer : c ≡ false → r.changed ≡ true → size p r.node < size p s
    still : r.changed ≡ false → (c ≡ false) × (r.node ≡ s) × (r.alive ≡ true → Each (λ q. pair_asked s q ≡ Nothing) qs)

  -- one step to a node with fewer free columns, and the pairs after it
  step-passes : (q : Pair) (qs : List Pair) (s t : Node) (c : Bool) → size p t < size p s
      → ((k : ℕ) → k < width p → Decided s t k) → ((X : ℕ → Bool) → Obeys (q ∷ qs) X → Completion p s X → Completion p t X)
      → (r : Passed) → Passes qs t true r → Passes (q ∷ qs) s c r
  step-passes q qs s t c l d h r w = record {
    good = w.good;
    decides = λ k m. decided_then (d k m) (w.decides k m);
    comp = λ X a e. w.comp X a.1 (h X a e);
    fewer = λ e f. omega (arith, decided_le p t r.node w.decides);
    still = λ e. absurd (true≢false (w.still e).0);
  }

  pass_on_lem : (q : Pair) (qs : List Pair) → (q.first < width p) × (q.second < width p) → (s : Node) → Good s → (c : Bool)
      → (x : PairAsked) → pair_asked s q ≡ x → Why s q x → (w : Node → Bool → Passed) → ((t : Node) (d : Bool) → Good t → Passes qs t d (w t d))
      → Passes (q ∷ qs) s c (pass_on o.join p x q s c w)
  unfolding pass_on
  pass_on_lem q qs i s g c TakeSecond y (e, f) w h =
      let j : ℕ = q.second in
      let free : Free p s j = record { col = i.1; is_free_true = f } in
      let b : ℕ = o.join s j in
      let t : Node = take p s j b in
      step-passes q qs s t c (take_less p F s j free b) (take_decides p F s j free b)
      (λ X a d. take_comp p F s j free b X d (a.0 (d.agrees q.first i.0 (not_free s q.first e) ∙ e)))
      (w t true) (h t true (S.taking s j free g))
  pass_on_lem q qs i s g c Dead y (e, f, n) w h = record {
    good = g;
    decides = λ k l. stays refl;
    comp = λ X a d. absurd (true≢false
        (sym (a.0 (d.agrees q.first i.0 (not_free s q.first e) ∙ e)) ∙ d.agrees q.second i.1 f ∙ n));
    fewer = λ d e. absurd (true≢false (sym e ∙ d));
    still = λ d. (d, refl, λ e. absurd (false≢true e));
  }
  pass_on_lem q qs i s g c LeaveFirst y (e, f, n) w h =
      let j : ℕ = q.first in
      let free : Free p s j = record { col = i.0; is_free_true = e } in
      let t : Node = leave s j in
      step-passes q qs s t c (leave-less p F s j free) (leave_decides p F s j free)
      (λ X a d. leave_comp p F s j free X d (not_so (λ x. true≢false (sym (a.0 x) ∙ d.agrees q.second i.1 f ∙ n))))
      (w t true) (h t true (S.leaving s j free g))
  pass_on_lem q qs i s g c Nothing y n w h =
      let r : Passes qs s c (w s c) = h s c g in
      record {
        good = r.good;
        decides = r.decides;
        comp = λ X a. r.comp X a.1;
        fewer = r.fewer;
        still = λ e. let t = r.still e in (t.0, t.1, λ a. (y, t.2 a));
      }

  passes : (qs : List Pair) → PairsInside p qs → (s : Node) → Good s → (c : Bool) → Passes qs s c (pass o.join p qs s c)
  unfolding pass
  passes [] i s g c = record {
    good = g;
    decides = λ k l. stays refl;
    comp = λ X a d. (refl, d);
    fewer = λ d e. absurd (true≢false (sym e ∙ d));
    still = λ d. (d, refl, λ e. tt);
  }
  passes (q ∷ qs) i s g c =
      pass_on_lem q qs i.0 s g c (pair_asked s q) refl (asked_why s q) (λ t d. pass o.join p qs t d)
      (λ t d h. passes qs i.1 t h d)

  -- where no pair asks anything, the taken columns obey them
  at_rest : (qs : List Pair) → PairsInside p qs → (s : Node) → Each (λ q. pair_asked s q ≡ Nothing) qs → Obeys qs (chosen (taken p s))
  at_rest [] i s h = tt
  at_rest (q ∷ qs) i s h = (
    λ x.
        let n : Why s q Nothing = rw h.0 at (asked_why s q) in
        taken_is p s q.second i.0.1 ∙ n (sym (taken_is p s q.first i.0.0) ∙ x),
    at_rest qs i.1 s h.1,
  )

  module _ (qs : List Pair) (i : PairsInside p qs) where
    -- what code goes through the pairs by
    pub pass_good : (s : Node) → Good s → Good (pass o.join p qs s false).node
    pass_good s g = (passes qs i s g false).good

    pub pass_fewer : (s : Node) → Good s → (pass o.join p qs s false).changed ≡ true → size p (pass o.join p qs s false).node < size p s
    pass_fewer s g = (passes qs i s g false).fewer refl

    -- by whether the node is alive after the pairs, and whether anything changed
    changed_forces : (s : Node) → Forces p Ok Good s (live s) → (r : Passed) → Passes qs s false r
        → (a c : Bool) → r.alive ≡ a → r.changed ≡ c
        → (w : Node → Forced) → ((t : Node) → Good t → size p t < size p s → Forces p (Paired Ok qs) Good t (w t))
        → Forces p (Paired Ok qs) Good s (cond a (cond c (w r.node) (live r.node)) (dead r.node))
    changed_forces s f r m false c e d w q =
        dead_forces p (Paired Ok qs) Good s r.node m.good m.decides
        (λ X a h. true≢false (sym (m.comp X a.obeys h).0 ∙ e))
    changed_forces s f r m true true e d w q =
        forces_after p (Paired Ok qs) Good s r.node (w r.node) m.decides
        (λ X a h. (m.comp X a.obeys h).1)
        (q r.node m.good (m.fewer refl d))
    changed_forces s f r m true false e d w q =
        let t = m.still d in
        rw t.1 (record {
          good = f.good;
          decides = f.decides;
          comp = λ X a. f.comp X a.ok;
          two = f.two;
          full = λ z h. record { ok = f.full z h; obeys = at_rest qs i s (t.2 e) };
        })

    -- by whether the node is alive after forcing
    alive_forces : (s : Node) (r : Forced) → Forces p Ok Good s r → (a : Bool) → r.alive ≡ a
        → (w : Node → Forced) → (Forces p Ok Good r.node (live r.node) → Forces p (Paired Ok qs) Good r.node (w r.node))
        → Forces p (Paired Ok qs) Good s (cond a (w r.node) (dead r.node))
    alive_forces s r f true e w q =
        forces_after p (Paired Ok qs) Good s r.node (w r.node) f.decides (λ X a h. (f.comp X a.ok h).1)
        (q (record {
          good = f.good;
          decides = λ k l. stays refl;
          comp = λ X a c. (refl, c);
          two = λ z. f.two e;
          full = λ z. f.full e;
        }))
    alive_forces s r f false e w q =
        dead_forces p (Paired Ok qs) Good s r.node f.good f.decides
        (λ X a h. true≢false (sym (f.comp X a.ok h).0 ∙ e))

    abbrev by : ℕ → Node → Forced
    by = paired_by o.join p o.settle qs

    -- the pairs, and w on what they leave if anything changed
    abbrev after : (Node → Forced) → Node → Forced
    after w t = if_changed (pass o.join p qs t false) w

    -- a good node forced, and the pairs then gone through
    module _ (s : Node) (g : Good s) where
      f : Forces p Ok Good s (o.settle s)
      f = S.forcing s g

      abbrev t : Node
      t = (o.settle s).node

      abbrev r : Passed
      r = pass o.join p qs t false

      round_forces : (w : Node → Forced) → ((u : Node) → Good u → size p u < size p s → Forces p (Paired Ok qs) Good u (w u))
          → Forces p (Paired Ok qs) Good s (if_alive (o.settle s) (after w))
      round_forces w q =
          alive_forces s (o.settle s) f (o.settle s).alive refl (after w)
          (λ k. changed_forces t k r (passes qs i t f.good false) r.alive r.changed refl refl w
          (λ u h m. q u h (omega (arith, decided_le p s t f.decides))))

      round_same : (w u : Node → Forced) → ((v : Node) → Good v → size p v < size p s → w v ≡ u v)
          → if_alive (o.settle s) (after w) ≡ if_alive (o.settle s) (after u)
      round_same w u q = go (o.settle s).alive r.alive r.changed refl
        where
          go : (a b c : Bool) → r.changed ≡ c
              → cond a (cond b (cond c (w r.node) (live r.node)) (dead r.node)) (dead t)
              ≡ cond a (cond b (cond c (u r.node) (live r.node)) (dead r.node)) (dead t)
          go false b c e = refl
          go true false c e = refl
          go true true true e = q r.node (pass_good t f.good) (omega (arith, pass_fewer t f.good e, decided_le p s t f.decides))
          go true true false e = refl

    paired_by_lem : (n : ℕ) (s : Node) → Good s → size p s < n → Forces p (Paired Ok qs) Good s (by n s)
    unfolding paired_by
    paired_by_lem zero s g l = absurd (omega arith)
    paired_by_lem (suc n) s g l = round_forces s g (by n) (λ u h m. paired_by_lem n u h (omega arith))

    pub paired_forces : (s : Node) → Good s → Forces p (Paired Ok qs) Good s (paired o.join p o.settle qs s)
    unfolding paired
    paired_forces s g = paired_by_lem (suc (width p)) s g (size_fits p s)

    pub paired_steps : Stepping p (with_pairs p qs o) (Paired Ok qs) Good
    paired_steps = record {
      sound = S.sound;
      forcing = paired_forces;
      taking = S.taking;
      leaving = S.leaving;
      reducing = λ s g.
          let r : Lowered p o Good s (o.lowered s) = S.reducing s g in
          record { good = r.good; same_column = r.same_column; same_row = r.same_row; zero = r.zero };
    }

    -- the fuel does not matter: settling is forcing, the pairs, and settling again if anything changed
    paired_same : (f h : ℕ) (s : Node) → Good s → size p s < f → size p s < h → by f s ≡ by h s
    unfolding paired_by
    paired_same zero h s g l m = absurd (omega arith)
    paired_same (suc f) zero s g l m = absurd (omega arith)
    paired_same (suc f) (suc h) s g l m = round_same s g (by f) (by h) (λ t k n. paired_same f h t k (omega arith) (omega arith))

    pub paired-step : (s : Node) → Good s → paired o.join p o.settle qs s
        ≡ if_alive (o.settle s) (λ t. if_changed (pass o.join p qs t false) (paired o.join p o.settle qs))
    unfolding paired paired_by
    paired-step s g =
        round_same s g (by (width p)) (paired o.join p o.settle qs)
        (λ t k n. paired_same (width p) (suc (width p)) t k (omega (arith, size_fits p s)) (size_fits p t))

-- of the laws, those that speak of settling are its own
pub paired_laws : (p : Matrix) → FitsNode p → (o : Variant) (start : Forced) (Ok : (ℕ → Bool) → Type 0) (value : (ℕ → Bool) → ℕ)
    (Good : Node → Type 0) → Laws p o start Ok value Good → (qs : List Pair) → PairsInside p qs
    → Laws p (with_pairs p qs o) start (Paired Ok qs) value Good
paired_laws p F o start Ok value Good L qs i = record {
  steps = paired_steps p F o Ok Good L.steps qs i;
  start_good = L.start_good;
  start_comp = λ X a. L.start_comp X a.ok;
  low = L.low;
  above = L.above;
  exact = L.exact;
}

-- an empty list gives the former search
pub paired_none : (p : Matrix) (o : Variant) → with_pairs p [] o ≡ o
unfolding paired paired_by pass
paired_none p o =
    let same : paired o.join p o.settle [] ≡ o.settle = fun_ext (λ s. go s (o.settle s).alive refl) in
    rw same
  where
    go : (s : Node) (a : Bool) → (o.settle s).alive ≡ a → cond a (live (o.settle s).node) (dead (o.settle s).node) ≡ o.settle s
    go s true e = rw (← e)
    go s false e = rw (← e)
