-- What a node stands for, whatever the objective: its completions. Each open row is covered by just one of a completion's free columns,
-- since a sound node's taken columns cover the closed rows once and the open ones not at all.
use mathlib.Core.Path.{◌≡◌, refl, sym, ap, ◌∙◌}
use mathlib.Core.Bool.{Bool, true, false, ◌&&◌, true≢false}
use mathlib.Core.List.{List}
use Prim.Native.Nat.{ℕ, suc, ◌+◌, ◌-◌, ◌*◌, ◌≤◌, ◌<◌}
use native.Mathlib.Omega.{arith}
use lib.ListN.{length, get_or}
use lib.Dec.{ltb}
use borrow.Author.Tests.{eqb-true, lt-ltb}
use Rattle.node.specs.declared.Node.{Node}
use Rattle.node.specs.Lists.{keep, member, on, total}
use Rattle.node.specs.Matrix.{Matrix, width, body, covers, meets, count, IsPlan, chosen, columns}
use Rattle.node.specs.Stored.{FitsNode, Small}
use Rattle.node.specs.Node.{mark, is_free, is_taken, is_open, cost_at, root}
use Rattle.rules.specs.Identity.{Completion, rest}
use Rattle.node.proofs.Members.{and_both, not_so, at_table, member-at}
use Rattle.node.proofs.Shares.{Shared, meets_at, meets_of}
use Rattle.rules.proofs.Sums.{total-add, total_mul, total-zero, total-two, total_le, total-one, total-ones, total_swap}
use Rattle.rules.proofs.Sums.{length-keep}

pub not_taken : (s : Node) (k : ℕ) → is_free s k ≡ true → is_taken s k ≡ false
not_taken s k h = rw (eqb-true (mark s k) 1 h)

pub not_free : (s : Node) (k : ℕ) → is_taken s k ≡ true → is_free s k ≡ false
not_free s k h = rw (eqb-true (mark s k) 2 h)

pub not_both : (s : Node) (k : ℕ) → (is_free s k && is_taken s k) ≡ false
not_both s k = not_so (λ h. let b = and_both h in true≢false (sym b.1 ∙ not_taken s k b.0))

module _ (p : Matrix) where
  -- an open row, a free column, and a free column of a row
  pub record Open (s : Node) (i : ℕ) : Type 0 where
    pub row : i < p.rows
    pub is_open_true : is_open s i ≡ true

  pub record Free (s : Node) (k : ℕ) : Type 0 where
    pub col : k < width p
    pub is_free_true : is_free s k ≡ true

  pub record FreeIn (s : Node) (i k : ℕ) : Type 0 where
    pub free : Free s k
    pub covering : covers p i k ≡ true

  -- What holds of the marks of every node: a free column has open rows only, and a row is open or covered by one taken column.
  pub record Sound (s : Node) : Type 0 where
    pub open_free : (i k : ℕ) → i < p.rows → FreeIn s i k → is_open s i ≡ true
    pub once : (i : ℕ) → i < p.rows → count p i (is_taken s) + on (is_open s i) 1 ≡ 1

  -- both depend on the marks alone
  pub comp_same : (s t : Node) → t.column ≡ s.column → (X : ℕ → Bool) → Completion p s X → Completion p t X
  comp_same s t e X c = record { plan = c.plan; agrees = λ k l f. rw e (c.agrees k l (rw e at f)) }

  pub sound_same : (s t : Node) → t.column ≡ s.column → t.row ≡ s.row → Sound s → Sound t
  sound_same s t e r g = record {
    open_free = λ i k l f.
        let h : Free s k = record { col = f.free.col; is_free_true = rw e at f.free.is_free_true } in
        rw r (g.open_free i k l (record { free = h; covering = f.covering }));
    once = λ i l. rw (e, r) (g.once i l);
  }

  parts : (x t f : Bool) (v : ℕ) → (f ≡ false → x ≡ t) → (f ≡ true → t ≡ false) → on x v ≡ on t v + on (f && x) v
  parts x t true v h e = rw (e refl) (omega arith)
  parts x t false v h e = rw (h refl) (omega arith)

  -- the free columns of a completion cover each open row once
  pub rest-once : (s : Node) → Sound s → (X : ℕ → Bool) → Completion p s X → (i : ℕ) → Open s i
      → rest p s X (λ k. on (covers p i k) 1) ≡ 1
  unfolding count
  rest-once s g X c i o =
      let v : ℕ → ℕ = λ k. on (covers p i k) 1 in
      omega (
        arith,
        rw o.is_open_true at (g.once i o.row),
        c.plan i o.row,
        total-add (width p) (λ k. on (X k) (v k)) (λ k. on (is_taken s k) (v k)) (λ k. on (is_free s k && X k) (v k))
            (λ k m. parts (X k) (is_taken s k) (is_free s k) (v k) (c.agrees k m) (not_taken s k)),
      )

  scale : (b v : Bool) (a : ℕ) → on b (on v a) ≡ a * on b (on v 1)
  scale true true a = omega arith
  scale true false a = omega arith
  scale false v a = omega arith

  pub rest-row : (s : Node) → Sound s → (X : ℕ → Bool) → Completion p s X → (i : ℕ) → Open s i
      → (a : ℕ) → rest p s X (λ k. on (covers p i k) a) ≡ a
  rest-row s g X c i o a =
      let f : ℕ → ℕ → ℕ = λ a k. on (is_free s k && X k) (on (covers p i k) a) in
      omega (
        arith,
        rw (rest-once s g X c i o) at (total_mul (width p) a (f a) (f 1) (λ k l. scale (is_free s k && X k) (covers p i k) a)),
      )

  -- two columns that do not share a row
  pub apart : (i j k : ℕ) → i < p.rows → meets p j k ≡ false → covers p i k ≡ true → covers p i j ≡ false
  apart i j k l h c = not_so (λ e. true≢false (sym (meets_of p i j k l e c) ∙ h))

  -- no plan has two columns that share a row
  pub clash : (X : ℕ → Bool) → IsPlan p X → (j k : ℕ) → j < width p → k < width p → (k ≡ j → ⊥)
      → meets p j k ≡ true → X j ≡ true → X k ≡ false
  unfolding count
  clash X h j k a b n m e = go (meets_at p j k m) (X k) refl
    where
      go : Shared p j k → (x : Bool) → X k ≡ x → x ≡ false
      go r false g = refl
      go r true g =
          let f : ℕ → ℕ = λ l. on (X l) (on (covers p r.0 l) 1) in
          let u : f j ≡ 1 = rw (e, r.2) in
          let w : f k ≡ 1 = rw (g, r.3) in
          absurd (omega (arith, total-two (width p) j k f a b n, h r.0 r.1))

  -- the root's tables have a place for each row and column
  module _ (F : FitsNode p) (cs : List ℕ) where
    root_open : (i : ℕ) → i < p.rows → is_open (root p cs) i ≡ true
    unfolding root
    root_open i l = rw (at_table 64 (λ i. on (ltb i p.rows) 1) i (omega (arith, F.tall)), lt-ltb i p.rows l)

    pub root-free : (k : ℕ) → k < width p → is_free (root p cs) k ≡ true
    unfolding root
    root-free k l = rw (at_table 256 (λ j. on (ltb j (width p)) 1) k (omega (arith, F.wide)), lt-ltb k (width p) l)

    pub root-cost : (k : ℕ) → k < width p → cost_at (root p cs) k ≡ get_or cs k 0
    unfolding root
    root-cost k l = at_table 256 (λ j. get_or cs j 0) k (omega (arith, F.wide))

    pub root_sound : Sound (root p cs)
    unfolding count
    root_sound = record {
      open_free = λ i k l f. root_open i l;
      once = λ i l. rw (root_open i l) (omega (
        arith,
        total-zero (width p) (λ k. on (is_taken (root p cs) k) (on (covers p i k) 1))
            (λ k m. rw (not_taken (root p cs) k (root-free k m))),
      ));
    }

    pub root_comp : (X : ℕ → Bool) → IsPlan p X → Completion p (root p cs) X
    root_comp X h = record { plan = h; agrees = λ k l f. absurd (true≢false (sym (root-free k l) ∙ f)) }

  -- each column covers a row
  pub some-row : Small p → (j : ℕ) → j < width p → (i : ℕ) × (i < p.rows) × (covers p i j ≡ true)
  unfolding covers
  some-row s j l =
      let r : ℕ = get_or (body p j) 0 0 in
      let m : member r (body p j) ≡ true = member-at (body p j) 0 (s.covering j l) in
      let w = s.numbered j r l m in
      let e : suc (r - 1) ≡ r = omega (arith, w.0) in
      (r - 1, omega (arith, w.0, w.1), rw e m)

  -- so a plan has no more columns than there are rows
  pub plan-short : Small p → (js : List ℕ) → keep (chosen js) (columns p) ≡ js → IsPlan p (chosen js) → length js ≤ p.rows
  unfolding count
  plan-short small js e s =
      let f : ℕ → ℕ → ℕ = λ i j. on (chosen js j) (on (covers p i j) 1) in
      omega (
        arith,
        ap length e,
        length-keep (width p) (chosen js),
        total_swap (width p) p.rows f,
        total-ones p.rows (λ i. total (width p) (f i)) s,
        total_le (width p) (λ j. on (chosen js j) 1) (λ j. total p.rows (λ i. f i j))
            (λ j l. let r = some-row small j l in rw r.2 at (total-one p.rows r.0 (λ i. f i j) r.1)),
      )
