-- Forcing keeps a node good, in any sense that taking a free column keeps, and loses none of its completions: the only free column of an
-- open row is in each of them. It comes to its end, since each step leaves fewer free columns.
use mathlib.Core.Path.{◌≡◌, refl, sym, ap, ◌∙◌}
use mathlib.Core.Bool.{Bool, true, false≢true, true≢false}
use mathlib.Core.List.{List, [], ◌∷◌}
use mathlib.Core.Logic.{⊎_elim}
use Prim.Native.Nat.{ℕ, zero, suc, ◌≤◌, ◌<◌}
use native.Mathlib.Omega.{arith}
use lib.ListN.{length}
use lib.Dec.{eqb}
use borrow.Author.Tests.{eqb-true, eq-eqb}
use Rattle.node.specs.declared.Node.{Node}
use Rattle.node.specs.Lists.{member, first}
use Rattle.node.specs.Matrix.{Matrix, width}
use Rattle.node.specs.Stored.{FitsNode}
use Rattle.node.specs.Node.{free_of, open_rows, take}
use Rattle.rules.specs.Force.{rows_with, asked_by, asked, force_on, force_by, force}
use Rattle.rules.specs.declared.Asked.{Asked}
use Rattle.rules.specs.declared.Asked.TheVariants.{Dead, Take, Settled}
use Rattle.rules.specs.declared.Forced.{Forced}
use Rattle.rules.specs.Identity.{Completion}
use Rattle.node.proofs.Members.{so, here, member-cases, kept, member-keep}
use Rattle.rules.proofs.Plans.{Open, Free, FreeIn, Sound}
use Rattle.rules.proofs.Decide.{Decided, stays, decided_then}
use Rattle.rules.proofs.Steps.{take_decides, take_comp, take_less}
use Rattle.rules.proofs.Rows.{size, size_fits, open_in, in_open, free_in_lem, in_free, some-free}

one_of : (xs : List ℕ) → length xs ≡ 1 → xs ≡ first xs ∷ []
unfolding first
one_of [] h = absurd (omega arith)
one_of (x ∷ []) h = refl
one_of (x ∷ (y ∷ ys)) h = absurd (omega arith)

none_of : (xs : List ℕ) → length xs ≡ 0 → xs ≡ []
none_of [] h = refl
none_of (x ∷ xs) h = absurd (omega arith)

module _ (p : Matrix) where
  -- each open row has two free columns or more
  abbrev pub TwoFree : Node → Type 0
  TwoFree s = (i : ℕ) → Open p s i → 2 ≤ length (free_of p s i)

  -- why a node is dead, forced or settled
  abbrev Asks : Node → Asked → Type 0
  Asks s Dead = (i : ℕ) × Open p s i × (free_of p s i ≡ [])
  Asks s (Take j) = (i : ℕ) × Open p s i × (free_of p s i ≡ j ∷ [])
  Asks s Settled = TwoFree s

  module _ (n : ℕ) (s : Node) (i : ℕ) where
    with_in : member i (rows_with n p s) ≡ true → Open p s i × (length (free_of p s i) ≡ n)
    unfolding rows_with
    with_in h =
        let m = kept (λ i. eqb (length (free_of p s i)) n) i (open_rows p s) h in
        (open_in p s i m.1, eqb-true (length (free_of p s i)) n m.0)

    in_with : Open p s i → length (free_of p s i) ≡ n → member i (rows_with n p s) ≡ true
    unfolding rows_with
    in_with o e =
        member-keep (λ i. eqb (length (free_of p s i)) n) i (open_rows p s)
        ∙ rw (eq-eqb (length (free_of p s i)) n e) (in_open p s i o)

  asks : (s : Node) → Asks s (asked p s)
  unfolding asked asked_by member
  asks s = go (rows_with 0 p s) (rows_with 1 p s) refl refl
    where
      go : (xs ys : List ℕ) → rows_with 0 p s ≡ xs → rows_with 1 p s ≡ ys → Asks s (asked_by p s xs ys)
      go (i ∷ is) ys d e = let m = with_in 0 s i (rw d (here i is)) in (i, m.0, none_of (free_of p s i) m.1)
      go [] (k ∷ ks) d e = let m = with_in 1 s k (rw e (here k ks)) in (k, m.0, one_of (free_of p s k) m.1)
      go [] [] d e = λ i o.
          let a : length (free_of p s i) ≡ 0 → ⊥ = λ q. false≢true (rw d at (in_with 0 s i o q)) in
          let b : length (free_of p s i) ≡ 1 → ⊥ = λ q. false≢true (rw e at (in_with 1 s i o q)) in
          omega arith

  -- the only free column of an open row is in every completion
  module _ (F : FitsNode p) (s : Node) (i : ℕ) (o : Open p s i) (j : ℕ) (e : free_of p s i ≡ j ∷ []) where
    forced_free : FreeIn p s i j
    forced_free = free_in_lem p s i j (rw e (here j []))

    forced_comp : Sound p s → (b : ℕ) (X : ℕ → Bool) → Completion p s X → Completion p (take p s j b) X
    unfolding member
    forced_comp g b X c = take_comp p F s j forced_free.free b X c (so (λ x. some-free p s g i o X c (λ k f y.
        ⊎_elim (λ q. true≢false (sym y ∙ ap X q ∙ x)) false≢true (member-cases k j [] (rw e at (in_free p s i k f))))))

  -- a column that is asked for is free
  pub asked-free : FitsNode p → (s : Node) (j : ℕ) → asked p s ≡ Take j → Free p s j
  asked-free F s j e = go (rw e at (asks s))
    where
      go : Asks s (Take j) → Free p s j
      go (i, o, q) = (forced_free F s i o j q).free

module _ (p : Matrix) (F : FitsNode p) (join : Node → ℕ → ℕ) where
  -- for a loop: the fuel does not matter, so forcing is one step and then forcing
  force-on-same : (s : Node) (a : Asked) → Asks p s a → (w u : Node → Forced) → ((t : Node) → size p t < size p s → w t ≡ u t)
      → force_on join a p s w ≡ force_on join a p s u
  unfolding force_on
  force-on-same s Dead e w u q = refl
  force-on-same s (Take j) (i, o, e) w u q =
      q (take p s j (join s j)) (take_less p F s j (forced_free p F s i o j e).free (join s j))
  force-on-same s Settled e w u q = refl

  force-same : (f h : ℕ) (s : Node) → size p s < f → size p s < h → force_by join f p s ≡ force_by join h p s
  unfolding force_by
  force-same zero h s l m = absurd (omega arith)
  force-same (suc f) zero s l m = absurd (omega arith)
  force-same (suc f) (suc h) s l m =
      force-on-same s (asked p s) (asks p s) (λ t. force_by join f p t) (λ t. force_by join h p t)
      (λ t n. force-same f h t (omega arith) (omega arith))

  pub force-step : (s : Node) → force join p s ≡ force_on join (asked p s) p s (force join p)
  unfolding force force_by
  force-step s =
      force-on-same s (asked p s) (asks p s) (λ t. force_by join (width p) p t) (force join p)
      (λ t n. force-same (width p) (suc (width p)) t (omega (arith, size_fits p s)) (size_fits p t))

  module _ (Good : Node → Type 0) (sound : (s : Node) → Good s → Sound p s)
      (taking : (s : Node) (j : ℕ) → Free p s j → Good s → Good (take p s j (join s j))) where
    -- what forcing a node s comes to
    pub record Settles (s : Node) (r : Forced) : Type 0 where
      pub good : Good r.node
      pub comp : (X : ℕ → Bool) → Completion p s X → (r.alive ≡ true) × Completion p r.node X
      pub two : r.alive ≡ true → TwoFree p r.node
      pub decides : (k : ℕ) → k < width p → Decided s r.node k

    force_on_lem : (s : Node) → Good s → (a : Asked) → Asks p s a
        → (w : Node → Forced) → ((t : Node) → Good t → size p t < size p s → Settles t (w t)) → Settles s (force_on join a p s w)
    unfolding force_on member
    force_on_lem s g Dead (i, o, e) w q = record {
      good = g;
      two = λ h. absurd (false≢true h);
      decides = λ k l. stays refl;
      comp = λ X c. absurd (some-free p s (sound s g) i o X c (λ k f x. false≢true (rw e at (in_free p s i k f))));
    }
    force_on_lem s g (Take j) (i, o, e) w q =
        let t : Node = take p s j (join s j) in
        let f : Free p s j = (forced_free p F s i o j e).free in
        let r : Settles t (w t) = q t (taking s j f g) (take_less p F s j f (join s j)) in
        record {
          good = r.good;
          two = r.two;
          decides = λ k l. decided_then (take_decides p F s j f (join s j) k l) (r.decides k l);
          comp = λ X c. r.comp X (forced_comp p F s i o j e (sound s g) (join s j) X c);
        }
    force_on_lem s g Settled h w q = record { good = g; comp = λ X c. (refl, c); two = λ e. h; decides = λ k l. stays refl }

    force_by_lem : (f : ℕ) (s : Node) → Good s → size p s < f → Settles s (force_by join f p s)
    unfolding force_by
    force_by_lem zero s g l = absurd (omega arith)
    force_by_lem (suc f) s g l =
        force_on_lem s g (asked p s) (asks p s) (λ t. force_by join f p t) (λ t h m. force_by_lem f t h (omega arith))

    pub force-settles : (s : Node) → Good s → Settles s (force join p s)
    unfolding force
    force-settles s g = force_by_lem (suc (width p)) s g (size_fits p s)
