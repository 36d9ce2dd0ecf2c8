-- Reducing keeps a node good, changes no mark, and ends with a free column at cost 0 in each open row that has free columns. It comes to
-- its end, since a row used is a candidate no more, and no row becomes one. This holds by any comparison of candidates.
use mathlib.Core.Path.{◌≡◌, refl, sym, ap, ◌∙◌}
use mathlib.Core.Bool.{Bool, true, ◌&&◌, false≢true, true≢false}
use mathlib.Core.List.{List, [], ◌∷◌, ◌++◌}
use Prim.Native.Nat.{ℕ, zero, suc, ◌+◌, ◌≤◌, ◌<◌}
use native.Mathlib.Omega.{arith}
use lib.ListN.{length, length-append}
use lib.Dec.{ltb}
use borrow.Author.Tests.{ltb-true, lt-ltb, le-ltb}
use Rattle.node.specs.declared.Node.{Node}
use Rattle.node.specs.Lists.{member, least, pick, on, total}
use Rattle.node.specs.Matrix.{Matrix, width, IsPlan, price}
use Rattle.node.specs.Stored.{FitsNode}
use Rattle.node.specs.Node.{is_free, is_open, root, cost_at, free_columns, free_of, open_rows}
use Rattle.rules.specs.Reduce.{least_of, candidates, lower, Comparison, precedes, row_first, Reduced, reduce_on, reduce_by, reduce_with}
use Rattle.rules.specs.Reduce.{reduce}
use Rattle.node.proofs.Members.{kept, member-keep, pick-member, least_le, least_at, least_mono, keep_lt, keep-short}
use Rattle.node.proofs.Members.{keep-upto}
use Rattle.rules.proofs.Sums.{total_cong}
use Rattle.rules.proofs.Plans.{Open, FreeIn, root-free}
use Rattle.rules.proofs.Rows.{open_in, in_open, free_in_lem, in_free}
use Rattle.rules.proofs.Costs.{Good, Fair, root_good, lower_good, lower_fair, cost-lower}

-- what lowering a candidate keeps
abbrev pub Lowers : Matrix → (Node → Type 0) → Type 0
Lowers p G = (s : Node) (i a : ℕ) → G s → Open p s i → (j : ℕ) → FreeIn p s i j → ((k : ℕ) → FreeIn p s i k → a ≤ cost_at s k) →
    G (lower p s i a)

module _ (p : Matrix) where
  -- how many rows can still be used
  abbrev pub pending : Node → ℕ
  pending s = length (candidates p s)

  pub pending_fits : (s : Node) → pending s < suc p.rows
  unfolding candidates open_rows
  pending_fits s = omega (arith, keep-short (λ i. ltb 0 (least_of p s i)) (open_rows p s), keep-upto (is_open s) p.rows)

  cand_in : (s : Node) (i : ℕ) → member i (candidates p s) ≡ true → Open p s i × (0 < least_of p s i)
  unfolding candidates
  cand_in s i h =
      let m = kept (λ i. ltb 0 (least_of p s i)) i (open_rows p s) h in
      (open_in p s i m.1, ltb-true 0 (least_of p s i) m.0)

  in_cand : (s : Node) (i : ℕ) → Open p s i → 0 < least_of p s i → member i (candidates p s) ≡ true
  unfolding candidates
  in_cand s i o e = member-keep (λ i. ltb 0 (least_of p s i)) i (open_rows p s) ∙ rw (lt-ltb 0 (least_of p s i) e) (in_open p s i o)

  -- a free column of the row at the least cost
  pub least-free : (s : Node) (i : ℕ) → 0 < length (free_of p s i) → (k : ℕ) × FreeIn p s i k × (least_of p s i ≡ cost_at s k)
  unfolding least_of
  least-free s i l = go (free_of p s i) refl l
    where
      go : (js : List ℕ) → free_of p s i ≡ js → 0 < length js → (k : ℕ) × FreeIn p s i k × (least_of p s i ≡ cost_at s k)
      go [] e h = absurd (omega arith)
      go (x ∷ xs) e h =
          let r = least_at (cost_at s) x xs in
          (r.0, free_in_lem p s i r.0 (rw e r.1), ap (least (cost_at s)) e ∙ r.2)

  some-free : (s : Node) (i : ℕ) → 0 < least_of p s i → 0 < length (free_of p s i)
  unfolding least_of least
  some-free s i = go (free_of p s i)
    where
      go : (js : List ℕ) → 0 < least (cost_at s) js → 0 < length js
      go [] h = h
      go (x ∷ xs) h = omega arith

  -- the marks are as they were, and no row can be used
  pub record Finished (G : Node → Type 0) (s t : Node) : Type 0 where
    pub good : G t
    pub same_column : t.column ≡ s.column
    pub same_row : t.row ≡ s.row
    pub done : (i : ℕ) → Open p t i → least_of p t i ≡ 0

-- by a comparison: the row that is used next, i ∷ is the candidates; and reducing from a node, with the rows us used before
module _ (before : Comparison) (p : Matrix) (s : Node) where
  abbrev pub used_next : ℕ → List ℕ → ℕ
  used_next i is = pick (row_first before p s) i is

  abbrev pub reduce_from : List ℕ → Reduced
  reduce_from us = reduce_by before (suc p.rows) p s us

-- row b lowered by a
module _ (p : Matrix) (F : FitsNode p) (s : Node) (b a : ℕ) where
  lower_open : open_rows p (lower p s b a) ≡ open_rows p s
  unfolding open_rows lower
  lower_open = refl

  lower-free : (i : ℕ) → free_of p (lower p s b a) i ≡ free_of p s i
  unfolding free_of free_columns lower
  lower-free i = refl

  -- no row's least cost rises
  pub lower-least : (i : ℕ) → least_of p (lower p s b a) i ≤ least_of p s i
  unfolding least_of
  lower-least i =
      rw (lower-free i) (least_mono (cost_at (lower p s b a)) (cost_at s) (free_of p s i)
      (λ k m. omega (arith, cost-lower p F s b a k (free_in_lem p s i k m).free.col)))

module _ (before : Comparison) (p : Matrix) (F : FitsNode p) (G : Node → Type 0) (lowers : Lowers p G) where
  -- a candidate b, lowered by its least cost
  module _ (s : Node) (b : ℕ) (o : Open p s b) (a : 0 < least_of p s b) where
    cheapest : (k : ℕ) × FreeIn p s b k × (least_of p s b ≡ cost_at s k)
    cheapest = least-free p s b (some-free p s b a)

    least_good : G s → G (lower p s b (least_of p s b))
    unfolding least_of
    least_good g =
        lowers s b (least_of p s b) g o cheapest.0 cheapest.1
        (λ k f. least_le (cost_at s) (free_of p s b) k (in_free p s b k f))

    lower-none : least_of p (lower p s b (least_of p s b)) b ≤ 0
    unfolding least_of
    lower-none =
        let d : ℕ = least_of p s b in
        let k : ℕ = cheapest.0 in
        let f : FreeIn p s b k = cheapest.1 in
        let e : d ≡ cost_at s k = cheapest.2 in
        rw (lower-free p F s b d b) (omega (
          arith,
          least_le (cost_at (lower p s b d)) (free_of p s b) k (in_free p s b k f),
          rw (f.free.is_free_true, f.covering) at (cost-lower p F s b d k f.free.col),
        ))

    least-falls : pending p (lower p s b (least_of p s b)) < pending p s
    unfolding candidates
    least-falls =
        let d : ℕ = least_of p s b in
        let t : Node = lower p s b d in
        rw (lower_open p F s b d) (omega (
          arith,
          keep_lt (λ i. ltb 0 (least_of p s i)) (λ i. ltb 0 (least_of p t i)) (open_rows p s) b
              (λ i m h. lt-ltb 0 (least_of p s i) (omega (arith, ltb-true 0 (least_of p t i) h, lower-least p F s b d i)))
              (in_open p s b o) (lt-ltb 0 d a) (le-ltb 0 (least_of p t b) lower-none),
        ))

  -- the row picked, i ∷ is the candidates
  module _ (s : Node) (i : ℕ) (is : List ℕ) (e : candidates p s ≡ i ∷ is) where
    picked : ℕ
    picked = used_next before p s i is

    picked_cand : Open p s picked × (0 < least_of p s picked)
    unfolding picked
    picked_cand = cand_in p s picked (rw e (pick-member (row_first before p s) i is))

    next : Node
    next = lower p s picked (least_of p s picked)

    next_good : G s → G next
    unfolding next
    next_good = least_good s picked picked_cand.0 picked_cand.1

    next_falls : pending p next < pending p s
    unfolding next
    next_falls = least-falls s picked picked_cand.0 picked_cand.1

  reduce_on_lem : (s : Node) → G s → (xs : List ℕ) → candidates p s ≡ xs → (us : List ℕ) (w : Node → List ℕ → Reduced)
      → ((t : Node) (vs : List ℕ) → G t → pending p t < pending p s → Finished p G t (w t vs).node)
      → Finished p G s (reduce_on before xs p s us w).node
  unfolding reduce_on member lower picked next
  reduce_on_lem s g [] e us w q = record {
    good = g;
    same_column = refl;
    same_row = refl;
    done = λ i o. let h : 0 < least_of p s i → ⊥ = λ l. false≢true (rw e at (in_cand p s i o l)) in omega arith;
  }
  reduce_on_lem s g (i ∷ is) e us w q =
      let r = q (next s i is e) (us ++ (picked s i is e ∷ [])) (next_good s i is e g) (next_falls s i is e) in
      record { good = r.good; same_column = r.same_column; same_row = r.same_row; done = r.done }

  reduce_by_lem : (f : ℕ) (s : Node) (us : List ℕ) → G s → pending p s < f → Finished p G s (reduce_by before f p s us).node
  unfolding reduce_by
  reduce_by_lem zero s us g l = absurd (omega arith)
  reduce_by_lem (suc f) s us g l =
      reduce_on_lem s g (candidates p s) refl us (λ t vs. reduce_by before f p t vs) (λ t vs h m. reduce_by_lem f t vs h (omega arith))

  pub reduce-done : (s : Node) → G s → Finished p G s (reduce_with before p s).node
  unfolding reduce_with
  reduce-done s g = reduce_by_lem (suc p.rows) s [] g (pending_fits p s)

  -- for a loop: the fuel does not matter, so reducing is one step and then reducing
  reduce-on-same : (s : Node) (us xs : List ℕ) → candidates p s ≡ xs → (w u : Node → List ℕ → Reduced)
      → ((t : Node) (vs : List ℕ) → pending p t < pending p s → w t vs ≡ u t vs)
      → reduce_on before xs p s us w ≡ reduce_on before xs p s us u
  unfolding reduce_on picked next
  reduce-on-same s us [] e w u q = refl
  reduce-on-same s us (i ∷ is) e w u q = q (next s i is e) (us ++ (picked s i is e ∷ [])) (next_falls s i is e)

  reduce-same : (f h : ℕ) (s : Node) (us : List ℕ) → pending p s < f → pending p s < h
      → reduce_by before f p s us ≡ reduce_by before h p s us
  unfolding reduce_by
  reduce-same zero h s us l m = absurd (omega arith)
  reduce-same (suc f) zero s us l m = absurd (omega arith)
  reduce-same (suc f) (suc h) s us l m =
      reduce-on-same s us (candidates p s) refl (λ t vs. reduce_by before f p t vs) (λ t vs. reduce_by before h p t vs)
      (λ t vs n. reduce-same f h t vs (omega arith) (omega arith))

  pub reduce-step : (s : Node) (us : List ℕ)
      → reduce_from before p s us ≡ reduce_on before (candidates p s) p s us (λ t vs. reduce_from before p t vs)
  unfolding reduce_by
  reduce-step s us =
      reduce-on-same s us (candidates p s) refl (λ t vs. reduce_by before p.rows p t vs) (λ t vs. reduce_from before p t vs)
      (λ t vs n. reduce-same p.rows (suc p.rows) t vs (omega (arith, pending_fits p s)) (pending_fits p t))

  -- with no candidate left reducing is done, and one candidate used leads on
  pub reduce-none : (s : Node) (us : List ℕ) → candidates p s ≡ [] → reduce_from before p s us ≡ record { node = s; used = us }
  unfolding reduce_on
  reduce-none s us e = reduce-step s us ∙ rw e

  pub record Stepped (s t : Node) (us : List ℕ) (b : ℕ) : Type 0 where
    pub row_open : Open p s b
    pub above : 0 < least_of p s b
    pub good : G s → G t
    pub falls : pending p t < pending p s
    pub left : reduce_from before p s us ≡ reduce_from before p t (us ++ (b ∷ []))

  pub reduce-some : (s : Node) (us : List ℕ) (i : ℕ) (is : List ℕ) → candidates p s ≡ i ∷ is
      → let b : ℕ = used_next before p s i is in Stepped s (lower p s b (least_of p s b)) us b
  unfolding reduce_on picked next
  reduce-some s us i is e = record {
    row_open = (picked_cand s i is e).0;
    above = (picked_cand s i is e).1;
    good = next_good s i is e;
    falls = next_falls s i is e;
    left = reduce-step s us ∙ rw e;
  }

  -- no more rows are used than there are
  used-by : (f : ℕ) (s : Node) (us : List ℕ) → length (reduce_by before f p s us).used ≤ length us + pending p s
  unfolding reduce_by reduce_on picked next
  used-by zero s us = omega arith
  used-by (suc f) s us = go (candidates p s) refl (λ t vs. used-by f t vs)
    where
      go : (xs : List ℕ) → candidates p s ≡ xs
          → ((t : Node) (vs : List ℕ) → length (reduce_by before f p t vs).used ≤ length vs + pending p t)
          → length (reduce_on before xs p s us (λ t vs. reduce_by before f p t vs)).used ≤ length us + pending p s
      go [] e q = omega arith
      go (i ∷ is) e q =
          let vs : List ℕ = picked s i is e ∷ [] in
          omega (arith, q (next s i is e) (us ++ vs), length-append us vs, next_falls s i is e)

  reduce-used : (s : Node) → length (reduce_with before p s).used ≤ p.rows
  unfolding reduce_with
  reduce-used s = omega (arith, used-by (suc p.rows) s [], pending_fits p s)

-- no more rows are used than there are, whatever lowering keeps
pub used-few : (p : Matrix) → FitsNode p → (s : Node) → length (reduce p s).used ≤ p.rows
used-few p F s = reduce-used precedes p F (λ t. Unit {0}) (λ t i a g o j f fits. tt) s

pub fair_lowers : (p : Matrix) → FitsNode p → (top : ℕ) → Lowers p (Fair p top)
fair_lowers p F top s i a g o j f fits = lower_fair p F s i a g o j f fits

-- the public reducing call: every plan's price is the bound and its reduced costs, by the identity at the root reduced
module _ (p : Matrix) (F : FitsNode p) (cs : List ℕ) where
  pub good_lowers : Lowers p (Good p cs)
  good_lowers s i a g o j f fits = lower_good p F s i a g o j f fits

  pub reduce_identity : (X : ℕ → Bool) → IsPlan p X
      → price p cs X ≡ (reduce p (root p cs)).node.bound + total (width p) (λ k. on (X k) (cost_at (reduce p (root p cs)).node k))
  reduce_identity X h =
      let t : Node = (reduce p (root p cs)).node in
      let r : Finished p (Good p cs) (root p cs) t = reduce-done precedes p F (Good p cs) good_lowers (root p cs) (root_good p cs F) in
      let free : (k : ℕ) → k < width p → is_free t k ≡ true = λ k l. rw r.same_column (root-free p F cs k l) in
      omega (
        arith,
        r.good.identity X (record { plan = h; agrees = λ k l f. absurd (true≢false (sym (free k l) ∙ f)) }),
        total_cong (width p) (λ k. on (is_free t k && X k) (cost_at t k)) (λ k. on (X k) (cost_at t k)) (λ k l. rw (free k l)),
      )
