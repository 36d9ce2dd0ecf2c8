-- A start with agreed and absent columns keeps the laws of any variant: every node below has the agreed columns taken and the absent ones
-- out, since no step but the start changes a mark that is not free. So demand 3 holds of the plans with all agreed columns and no absent one.
use mathlib.Core.Path.{◌≡◌, refl, sym, ◌∙◌}
use mathlib.Core.Bool.{Bool, true, false, cond, false≢true, true≢false}
use mathlib.Core.List.{List, [], ◌∷◌}
use mathlib.Core.Logic.{⊎_elim}
use Prim.Native.Nat.{ℕ, ◌≤◌, ◌<◌}
use Rattle.node.specs.declared.Node.{Node}
use Rattle.node.specs.Lists.{member}
use Rattle.node.specs.Matrix.{Matrix, width, covers, meets, chosen}
use Rattle.node.specs.Stored.{FitsNode}
use Rattle.node.specs.Node.{is_free, is_taken, taken, take, leave}
use Rattle.rules.specs.declared.Forced.{Forced}
use Rattle.rules.specs.Search.{none}
use Rattle.rules.specs.Tree.{Variant, live, dead, answer}
use Rattle.rules.specs.Identity.{Completion}
use Rattle.rules.specs.Agreed.{without, with_all, agreed_start, Agreeing}
use Rattle.node.proofs.Members.{here, there, member-cases}
use Rattle.node.proofs.Shares.{meets_of}
use Rattle.rules.proofs.Plans.{Free, not_taken, not_free}
use Rattle.rules.proofs.Decide.{Decided, stays, decided_kept, decided_then}
use Rattle.rules.proofs.Steps.{take_decides, take_comp, take_self, take_other, take_meets, leave_decides, leave_comp, leave_self, leave-taken}
use Rattle.rules.proofs.Rows.{taken_is}
use Rattle.rules.proofs.Variants.{Lowered, Forces, Stepping, Laws}
use Rattle.rules.proofs.Demand.{dead-answer}

-- a column that is not in the rest of a list is not one of its columns
apart : (j k : ℕ) (js : List ℕ) → member j js ≡ false → member k js ≡ true → k ≡ j → ⊥
apart j k js n m e = true≢false (sym (rw e at m) ∙ n)

-- what holds of every node: it is good, the agreed columns are taken, and the absent ones are out
pub record Keeps (Good : Node → Type 0) (agreed absent : List ℕ) (t : Node) : Type 0 where
  pub good : Good t
  pub has : (j : ℕ) → member j agreed ≡ true → is_taken t j ≡ true
  pub out : (j : ℕ) → member j absent ≡ true → (is_free t j ≡ false) × (is_taken t j ≡ false)

-- what is asked of the lists: columns of the matrix, and no agreed column twice
abbrev pub Inside : Matrix → List ℕ → Type 0
Inside p js = (j : ℕ) → member j js ≡ true → j < width p

abbrev pub Distinct : List ℕ → Type 0
Distinct [] = Unit {0}
Distinct (j ∷ js) = (member j js ≡ false) × Distinct js

module _ (p : Matrix) (F : FitsNode p) (o : Variant) (Ok : (ℕ → Bool) → Type 0) (Good : Node → Type 0) (S : Stepping p o Ok Good) where
  -- the columns of a list out
  record Left (js : List ℕ) (t u : Node) : Type 0 where
    good : Good u
    decides : (k : ℕ) → k < width p → Decided t u k
    alike : (k : ℕ) → k < width p → is_taken u k ≡ is_taken t k
    out : (j : ℕ) → member j js ≡ true → is_free u j ≡ false
    comp : (X : ℕ → Bool) → Completion p t X → ((j : ℕ) → member j js ≡ true → X j ≡ false) → Completion p u X

  left : (js : List ℕ) → Inside p js → (t : Node) → Good t → Left js t (without js t)
  unfolding without member
  left [] i t g = record {
    good = g;
    decides = λ k l. stays refl;
    alike = λ k l. refl;
    out = λ j m. absurd (false≢true m);
    comp = λ X c h. c;
  }
  left (j ∷ js) i t g = go (is_free t j) refl (λ u h. left js (λ k m. i k (there k j js m)) u h)
    where
      col : j < width p
      col = i j (here j js)

      go : (b : Bool) → is_free t j ≡ b → ((u : Node) → Good u → Left js u (without js u))
          → Left (j ∷ js) t (without js (cond b (leave t j) t))
      go true e w =
          let f : Free p t j = record { col = col; is_free_true = e } in
          let u : Node = leave t j in
          let r : Left js u (without js u) = w u (S.leaving t j f g) in
          record {
            good = r.good;
            decides = λ k l. decided_then (leave_decides p F t j f k l) (r.decides k l);
            alike = λ k l. r.alike k l ∙ leave-taken p F t j f k l;
            out = λ k m. ⊎_elim
                (λ q. rw q (rw (decided_kept (r.decides j col) (leave_self p F t j f)) (leave_self p F t j f)))
                (r.out k) (member-cases k j js m);
            comp = λ X c h. r.comp X (leave_comp p F t j f X c (h j (here j js))) (λ k m. h k (there k j js m));
          }
      go false e w =
          let r : Left js t (without js t) = w t g in
          record {
            good = r.good;
            decides = r.decides;
            alike = r.alike;
            out = λ k m. ⊎_elim (λ q. rw q (rw (decided_kept (r.decides j col) e) e)) (r.out k) (member-cases k j js m);
            comp = λ X c h. r.comp X c (λ k m. h k (there k j js m));
          }

  pub without_good : (js : List ℕ) → Inside p js → (t : Node) → Good t → Good (without js t)
  without_good js i t g = (left js i t g).good

  -- the columns of a list taken, if none was
  record Took (js : List ℕ) (t : Node) (r : Forced) : Type 0 where
    good : Good r.node
    decides : (k : ℕ) → k < width p → Decided t r.node k
    all : r.alive ≡ true → (j : ℕ) → member j js ≡ true → is_taken r.node j ≡ true
    comp : (X : ℕ → Bool) → Completion p t X → ((j : ℕ) → member j js ≡ true → X j ≡ true)
        → (r.alive ≡ true) × Completion p r.node X

  took : (js : List ℕ) → Inside p js → Distinct js → (t : Node) → Good t → ((j : ℕ) → member j js ≡ true → is_taken t j ≡ false)
      → Took js t (with_all o.join p js t)
  unfolding with_all member
  took [] i d t g n = record {
    good = g;
    decides = λ k l. stays refl;
    all = λ e j m. absurd (false≢true m);
    comp = λ X c h. (refl, c);
  }
  took (j ∷ js) i d t g n = go (is_free t j) refl (λ u h q. took js (λ k m. i k (there k j js m)) d.1 u h q)
    where
      col : j < width p
      col = i j (here j js)

      u : Node
      u = take p t j (o.join t j)

      go : (b : Bool) → is_free t j ≡ b
          → ((u : Node) → Good u → ((k : ℕ) → member k js ≡ true → is_taken u k ≡ false) → Took js u (with_all o.join p js u))
          → Took (j ∷ js) t (cond b (with_all o.join p js u) (dead t))
      go true e w =
          let f : Free p t j = record { col = col; is_free_true = e } in
          let b : ℕ = o.join t j in
          let r : Took js u (with_all o.join p js u) = w u (S.taking t j f g)
          (λ k m. take_other p F t j f b k (i k (there k j js m)) (apart j k js d.0 m) ∙ n k (there k j js m)) in
          let self : is_taken u j ≡ true = take_self p F t j f b in
          record {
            good = r.good;
            decides = λ k l. decided_then (take_decides p F t j f b k l) (r.decides k l);
            all = λ a k m. ⊎_elim
                (λ q. rw q (rw (decided_kept (r.decides j col) (not_free u j self)) self))
                (r.all a k) (member-cases k j js m);
            comp = λ X c h. r.comp X (take_comp p F t j f b X c (h j (here j js))) (λ k m. h k (there k j js m));
          }
      go false e w = record {
        good = g;
        decides = λ k l. stays refl;
        all = λ a. absurd (false≢true a);
        comp = λ X c h. absurd (true≢false (sym (h j (here j js)) ∙ c.agrees j col e ∙ n j (here j js)));
      }

  -- lists of columns
  module _ (agreed absent : List ℕ) (in-agreed : Inside p agreed) (in-absent : Inside p absent) where
    abbrev Kept : Node → Type 0
    Kept = Keeps Good agreed absent

    keeps_on : (t u : Node) → Kept t → Good u → ((k : ℕ) → k < width p → Decided t u k) → Kept u
    keeps_on t u h g d = record {
      good = g;
      has = λ j m. let e = h.has j m in rw (decided_kept (d j (in-agreed j m)) (not_free t j e)) e;
      out = λ j m. let e = h.out j m in rw (decided_kept (d j (in-absent j m)) e.0) e;
    }

    keeps_ok : (t : Node) → Kept t → Ok (chosen (taken p t)) → Agreeing Ok agreed absent (chosen (taken p t))
    keeps_ok t h a = record {
      ok = a;
      holds = λ j m. taken_is p t j (in-agreed j m) ∙ h.has j m;
      lacks = λ j m. taken_is p t j (in-absent j m) ∙ (h.out j m).1;
    }

    agreed_steps : Stepping p o (Agreeing Ok agreed absent) Kept
    agreed_steps = record {
      sound = λ t h. S.sound t h.good;
      forcing = λ t h.
          let f : Forces p Ok Good t (o.settle t) = S.forcing t h.good in
          let k : Kept (o.settle t).node = keeps_on t (o.settle t).node h f.good f.decides in
          record {
            good = k;
            decides = f.decides;
            comp = λ X a. f.comp X a.ok;
            two = f.two;
            full = λ e a. keeps_ok (o.settle t).node k (f.full e a);
          };
      taking = λ t j f h.
          keeps_on t (take p t j (o.join t j)) h (S.taking t j f h.good) (take_decides p F t j f (o.join t j));
      leaving = λ t j f h. keeps_on t (leave t j) h (S.leaving t j f h.good) (leave_decides p F t j f);
      reducing = λ t h.
          let r : Lowered p o Good t (o.lowered t) = S.reducing t h.good in
          record {
            good = keeps_on t (o.lowered t) h r.good (λ k l. stays (rw r.same_column));
            same_column = r.same_column;
            same_row = r.same_row;
            zero = r.zero;
          };
    }

    -- a first node with every column free
    module _ (distinct : Distinct agreed) (s : Node) (good : Good s) (all-free : (k : ℕ) → k < width p → is_free s k ≡ true) where
      abbrev start : Forced
      start = agreed_start o.join p agreed absent s

      fewer : Left absent s (without absent s)
      fewer = left absent in-absent s good

      untaken : (j : ℕ) → j < width p → is_taken (without absent s) j ≡ false
      untaken j l = fewer.alike j l ∙ not_taken s j (all-free j l)

      begins : Took agreed (without absent s) start
      unfolding agreed_start
      begins = took agreed in-agreed distinct (without absent s) fewer.good (λ j m. untaken j (in-agreed j m))

      pub start_keeps : start.alive ≡ true → Kept start.node
      start_keeps e = record {
        good = begins.good;
        has = begins.all e;
        out = λ j m.
            let l : j < width p = in-absent j m in
            let f : is_free (without absent s) j ≡ false = fewer.out j m in
            rw (decided_kept (begins.decides j l) f) (f, untaken j l);
      }

      pub start_keeps_good : Good start.node
      start_keeps_good = begins.good

      pub start_completes : (X : ℕ → Bool) → Agreeing Ok agreed absent X → Completion p s X
          → (start.alive ≡ true) × Completion p start.node X
      start_completes X h c = begins.comp X (fewer.comp X c h.lacks) h.holds

  -- a column of the list that is not free makes the node dead
  took_dead : (js : List ℕ) → Inside p js → (t : Node) (j : ℕ) → member j js ≡ true → is_free t j ≡ false
      → (with_all o.join p js t).alive ≡ false
  unfolding with_all member
  took_dead [] i t j m n = absurd (false≢true m)
  took_dead (k ∷ js) i t j m n = go (is_free t k) refl (λ u g. took_dead js (λ l h. i l (there l k js h)) u j g)
    where
      u : Node
      u = take p t k (o.join t k)

      go : (b : Bool) → is_free t k ≡ b
          → ((u : Node) → member j js ≡ true → is_free u j ≡ false → (with_all o.join p js u).alive ≡ false)
          → (cond b (with_all o.join p js u) (dead t)).alive ≡ false
      go true e w =
          let f : Free p t k = record { col = i k (here k js); is_free_true = e } in
          ⊎_elim (λ q. absurd (true≢false (sym e ∙ rw q at n)))
          (λ g. w u g (rw (decided_kept (take_decides p F t k f (o.join t k) j (i j m)) n) n)) (member-cases j k js m)
      go false e w = refl

  -- and so do two columns of it that share a row
  took_shared : (js : List ℕ) → Inside p js → (t : Node) (j k : ℕ) → member j js ≡ true → member k js ≡ true → (k ≡ j → ⊥)
      → meets p j k ≡ true → meets p k j ≡ true → (with_all o.join p js t).alive ≡ false
  unfolding with_all member
  took_shared [] i t j k m n d a b = absurd (false≢true m)
  took_shared (h ∷ js) i t j k m n d a b = go (is_free t h) refl (λ u v w. took_shared js (λ l e. i l (there l h js e)) u j k v w d a b)
    where
      u : Node
      u = take p t h (o.join t h)

      gone : Free p t h → (l : ℕ) → l < width p → (l ≡ h → ⊥) → meets p h l ≡ true → member l js ≡ true
          → (with_all o.join p js u).alive ≡ false
      gone f l c x y v = took_dead js (λ l e. i l (there l h js e)) u l v (take_meets p F t h f (o.join t h) l c x y)

      go : (b : Bool) → is_free t h ≡ b
          → ((u : Node) → member j js ≡ true → member k js ≡ true → (with_all o.join p js u).alive ≡ false)
          → (cond b (with_all o.join p js u) (dead t)).alive ≡ false
      go true e w =
          let f : Free p t h = record { col = i h (here h js); is_free_true = e } in
          ⊎_elim
          (λ q. ⊎_elim (λ r. absurd (d (r ∙ sym q))) (gone f k (i k n) (λ r. d (r ∙ sym q)) (rw (← q) a)) (member-cases k h js n))
          (λ v. ⊎_elim (λ r. gone f j (i j m) (λ q. d (r ∙ sym q)) (rw (← r) b) v) (w u v) (member-cases k h js n))
          (member-cases j h js m)
      go false e w = refl

  module _ (agreed absent : List ℕ) (in-agreed : Inside p agreed) (in-absent : Inside p absent) (s : Node) (good : Good s) (limit : ℕ)
      (one : 1 ≤ limit) where
    -- a column in both lists: no plan, and one node
    pub both_none : (j : ℕ) → member j agreed ≡ true → member j absent ≡ true
        → answer o p (agreed_start o.join p agreed absent s) limit ≡ none 1
    unfolding agreed_start
    both_none j m n =
        dead-answer o p (agreed_start o.join p agreed absent s)
        (took_dead agreed in-agreed (without absent s) j m ((left absent in-absent s good).out j n)) limit one

    -- two agreed columns that share a row: the same
    pub shared-none : (j k : ℕ) → member j agreed ≡ true → member k agreed ≡ true → (k ≡ j → ⊥)
        → (i : ℕ) → i < p.rows → covers p i j ≡ true → covers p i k ≡ true
        → answer o p (agreed_start o.join p agreed absent s) limit ≡ none 1
    unfolding agreed_start
    shared-none j k m n d i l a b =
        dead-answer o p (agreed_start o.join p agreed absent s)
        (took_shared agreed in-agreed (without absent s) j k m n d (meets_of p i j k l a b) (meets_of p i k j l b a)) limit one

-- A start with lists keeps the laws, for the choices that the lists allow.
module _ (p : Matrix) (F : FitsNode p) (o : Variant) (Ok : (ℕ → Bool) → Type 0) (value : (ℕ → Bool) → ℕ) (Good : Node → Type 0) (s : Node)
    (L : Laws p o (live s) Ok value Good) (agreed absent : List ℕ) (in-agreed : Inside p agreed) (in-absent : Inside p absent)
    (distinct : Distinct agreed) (all-free : (k : ℕ) → k < width p → is_free s k ≡ true) where
  pub agreed_laws : Laws p o (agreed_start o.join p agreed absent s) (Agreeing Ok agreed absent) value (Keeps Good agreed absent)
  agreed_laws = record {
    steps = agreed_steps p F o Ok Good L.steps agreed absent in-agreed in-absent;
    start_good = start_keeps p F o Ok Good L.steps agreed absent in-agreed in-absent distinct s (L.start_good refl) all-free;
    start_comp = λ X h.
        start_completes p F o Ok Good L.steps agreed absent in-agreed in-absent distinct s (L.start_good refl) all-free X h
        (L.start_comp X h.ok).1;
    low = λ t h. L.low t h.good;
    above = λ t h. L.above t h.good;
    exact = λ t h. L.exact t h.good;
  }

-- two empty lists give the former start
pub agreed-none : (o : Variant) (p : Matrix) (s : Node) → agreed_start o.join p [] [] s ≡ live s
unfolding agreed_start without with_all
agreed-none o p s = refl
