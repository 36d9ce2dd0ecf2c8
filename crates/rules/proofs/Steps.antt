-- A column taken, and a column left: each keeps a node sound, leaves fewer free columns, and has the completions with the column, or
-- those without it.
use mathlib.Core.Path.{◌≡◌, refl, sym, ◌∙◌}
use mathlib.Core.Bool.{Bool, true, false, not, cond, ◌&&◌, false≢true, true≢false, and-false}
use Prim.Native.Nat.{ℕ, ◌+◌, ◌<◌}
use native.Mathlib.Omega.{arith}
use lib.ListN.{length, get_or}
use lib.Dec.{eqb}
use borrow.Author.Tests.{eqb-true, eqb-false, eq-eqb, ne_eqb}
use Rattle.node.specs.declared.Node.{Node}
use Rattle.node.specs.Lists.{on}
use Rattle.node.specs.Matrix.{Matrix, width, covers, meets}
use Rattle.node.specs.Stored.{FitsNode}
use Rattle.node.specs.Node.{mark, is_free, is_taken, is_open, free_columns, take, leave}
use Rattle.rules.specs.Identity.{Completion}
use Rattle.node.proofs.Members.{at_table}
use Rattle.rules.proofs.Sums.{total_cong, total-zero, total-at}
use Rattle.rules.proofs.Plans.{Free, FreeIn, Sound, not_taken, not_both, apart, clash}
use Rattle.rules.proofs.Decide.{Decided, stays, goes, joins, gained, redo, undo, decided_sound, still_free, decided_less}

-- what becomes of a mark as column j is taken
data At-take (p : Matrix) (s : Node) (j b k : ℕ) : Type 0 where
  itself : k ≡ j → mark (take p s j b) k ≡ 2 → At-take p s j b k
  drops : (k ≡ j → ⊥) → is_free s k ≡ true → meets p j k ≡ true → mark (take p s j b) k ≡ 0 → At-take p s j b k
  keeps : (k ≡ j → ⊥) → (is_free s k ≡ true → meets p j k ≡ false) → mark (take p s j b) k ≡ mark s k → At-take p s j b k

at_take : (p : Matrix) → FitsNode p → (s : Node) (j b k : ℕ) → k < width p → At-take p s j b k
unfolding take
at_take p F s j b k l =
    go (eqb k j) (is_free s k) (meets p j k) refl refl refl
    (at_table 256 (λ k. cond (eqb k j) 2 (cond (is_free s k && meets p j k) 0 (mark s k))) k (omega (arith, F.wide)))
  where
    go : (a d c : Bool) → eqb k j ≡ a → is_free s k ≡ d → meets p j k ≡ c
        → mark (take p s j b) k ≡ cond a 2 (cond (d && c) 0 (mark s k)) → At-take p s j b k
    go true d c e f g h = itself (eqb-true k j e) h
    go false true true e f g h = drops (eqb-false k j e) f g h
    go false true false e f g h = keeps (eqb-false k j e) (λ q. g) h
    go false false c e f g h = keeps (eqb-false k j e) (λ q. absurd (true≢false (sym q ∙ f))) h

pub open_take : (p : Matrix) → FitsNode p → (s : Node) (j b i : ℕ) → i < p.rows
    → is_open (take p s j b) i ≡ (not (covers p i j) && is_open s i)
unfolding take
open_take p F s j b i l =
    rw (at_table 64 (λ i. cond (covers p i j) 0 (get_or s.row i 0)) i (omega (arith, F.tall))) (go (covers p i j))
  where
    go : (c : Bool) → eqb (cond c 0 (get_or s.row i 0)) 1 ≡ (not c && is_open s i)
    go true = refl
    go false = refl

-- a free column j, taken with the bound b
module _ (p : Matrix) (F : FitsNode p) (s : Node) (j : ℕ) (f : Free p s j) (b : ℕ) where
  pub take_decides : (k : ℕ) → k < width p → Decided s (take p s j b) k
  take_decides k l = go (at_take p F s j b k l)
    where
      go : At-take p s j b k → Decided s (take p s j b) k
      go (itself q h) = joins (rw q f.is_free_true) h
      go (drops n q m h) = goes q h
      go (keeps n m h) = stays h

  -- only column j joins
  pub take_gains : (v : ℕ → ℕ) → gained p s (take p s j b) v ≡ v j
  take_gains v =
      total_cong (width p) (λ k. on (is_free s k && is_taken (take p s j b) k) (v k)) (λ k. on (eqb k j) (v k))
      (λ k l. go k (at_take p F s j b k l))
      ∙ total-at (width p) j v f.col
    where
      go : (k : ℕ) → At-take p s j b k → on (is_free s k && is_taken (take p s j b) k) (v k) ≡ on (eqb k j) (v k)
      go k (itself q h) = rw (h, q, f.is_free_true, eq-eqb j j refl)
      go k (drops n q m h) = rw (h, ne_eqb k j n, and-false (is_free s k))
      go k (keeps n m h) = rw (h, ne_eqb k j n, not_both s k)

  -- of the columns that were not taken, only column j is
  pub take_self : is_taken (take p s j b) j ≡ true
  take_self = go (at_take p F s j b j f.col)
    where
      go : At-take p s j b j → is_taken (take p s j b) j ≡ true
      go (itself q h) = rw h
      go (drops n q m h) = absurd (n refl)
      go (keeps n m h) = absurd (n refl)

  pub take_other : (k : ℕ) → k < width p → (k ≡ j → ⊥) → is_taken (take p s j b) k ≡ is_taken s k
  take_other k l n = go (at_take p F s j b k l)
    where
      go : At-take p s j b k → is_taken (take p s j b) k ≡ is_taken s k
      go (itself q h) = absurd (n q)
      go (drops m q w h) = rw h (sym (not_taken s k q))
      go (keeps m w h) = rw h

  -- a column that shares a row with it is free no more
  pub take_meets : (k : ℕ) → k < width p → (k ≡ j → ⊥) → meets p j k ≡ true → is_free (take p s j b) k ≡ false
  take_meets k l n m = go (is_free s k) refl (at_take p F s j b k l)
    where
      go : (a : Bool) → is_free s k ≡ a → At-take p s j b k → is_free (take p s j b) k ≡ false
      go a e (itself q h) = absurd (n q)
      go a e (drops d q w h) = rw h
      go true e (keeps d w h) = absurd (true≢false (sym m ∙ w e))
      go false e (keeps d w h) = rw h e

  -- the completions of the taking branch are those with column j
  pub take_comp : (X : ℕ → Bool) → Completion p s X → X j ≡ true → Completion p (take p s j b) X
  take_comp X c e = redo p s (take p s j b) take_decides X c (λ k l c n. go k l c n (at_take p F s j b k l))
    where
      go : (k : ℕ) → k < width p → is_free s k ≡ true → is_free (take p s j b) k ≡ false → At-take p s j b k
          → X k ≡ is_taken (take p s j b) k
      go k l d n (itself q h) = rw (h, q) e
      go k l d n (drops m q w h) = rw h (clash p X c.plan j k f.col l m w e)
      go k l d n (keeps m w h) = absurd (true≢false (sym d ∙ rw h at n))

  pub take_less : length (free_columns p (take p s j b)) < length (free_columns p s)
  take_less = decided_less p s (take p s j b) take_decides j f (go (at_take p F s j b j f.col))
    where
      go : At-take p s j b j → is_free (take p s j b) j ≡ false
      go (itself q h) = rw h
      go (drops n q m h) = absurd (n refl)
      go (keeps n m h) = absurd (n refl)

  take_open : Sound p s → (i k : ℕ) → i < p.rows → FreeIn p (take p s j b) i k → At-take p s j b k
      → is_open (take p s j b) i ≡ true
  take_open g i k l h (itself q e) = absurd (false≢true (rw e at h.free.is_free_true))
  take_open g i k l h (drops n q w e) = absurd (false≢true (rw e at h.free.is_free_true))
  take_open g i k l h (keeps n w e) =
      let d : Free p s k = still_free p s (take p s j b) take_decides k h.free in
      rw (open_take p F s j b i l, apart p i j k l (w d.is_free_true) h.covering)
      (g.open_free i k l (record { free = d; covering = h.covering }))

  take_row : Sound p s → (i : ℕ) → i < p.rows → (c : Bool) → covers p i j ≡ c → on c 1 + on (not c && is_open s i) 1 ≡ on (is_open s i) 1
  take_row g i l true e = rw (g.open_free i j l (record { free = f; covering = e }))
  take_row g i l false e = omega arith

  pub take_sound : Sound p s → Sound p (take p s j b)
  take_sound g = decided_sound p s (take p s j b) take_decides g
      (λ i l. rw (take_gains (λ k. on (covers p i k) 1), open_take p F s j b i l) (take_row g i l (covers p i j) refl))
      (λ i k l h. take_open g i k l h (at_take p F s j b k h.free.col))

-- a free column j, left
module _ (p : Matrix) (F : FitsNode p) (s : Node) (j : ℕ) (f : Free p s j) where
  leave-at : (k : ℕ) → k < width p → mark (leave s j) k ≡ cond (eqb k j) 0 (mark s k)
  unfolding leave
  leave-at k l = at_table 256 (λ k. cond (eqb k j) 0 (mark s k)) k (omega (arith, F.wide))

  leave_j : mark (leave s j) j ≡ 0
  leave_j = rw (leave-at j f.col, eq-eqb j j refl)

  pub leave_decides : (k : ℕ) → k < width p → Decided s (leave s j) k
  leave_decides k l = go (eqb k j) refl (leave-at k l)
    where
      go : (b : Bool) → eqb k j ≡ b → mark (leave s j) k ≡ cond b 0 (mark s k) → Decided s (leave s j) k
      go true e h = goes (rw (eqb-true k j e) f.is_free_true) h
      go false e h = stays h

  pub leave_self : is_free (leave s j) j ≡ false
  leave_self = rw leave_j

  pub leave-taken : (k : ℕ) → k < width p → is_taken (leave s j) k ≡ is_taken s k
  leave-taken k l = rw (leave-at k l) (go (eqb k j) refl)
    where
      go : (b : Bool) → eqb k j ≡ b → eqb (cond b 0 (mark s k)) 2 ≡ is_taken s k
      go true e = sym (not_taken s k (rw (eqb-true k j e) f.is_free_true))
      go false e = refl

  pub leave_gains : (v : ℕ → ℕ) → gained p s (leave s j) v ≡ 0
  leave_gains v =
      total-zero (width p) (λ k. on (is_free s k && is_taken (leave s j) k) (v k)) (λ k l. go k (eqb k j) (leave-at k l))
    where
      go : (k : ℕ) (b : Bool) → mark (leave s j) k ≡ cond b 0 (mark s k) → on (is_free s k && is_taken (leave s j) k) (v k) ≡ 0
      go k true h = rw (h, and-false (is_free s k))
      go k false h = rw (h, not_both s k)

  -- the completions of the leaving branch are those without column j
  pub leave_comp : (X : ℕ → Bool) → Completion p s X → X j ≡ false → Completion p (leave s j) X
  leave_comp X c e = redo p s (leave s j) leave_decides X c (λ k l b n. go k (eqb k j) refl (leave-at k l) b n)
    where
      go : (k : ℕ) (b : Bool) → eqb k j ≡ b → mark (leave s j) k ≡ cond b 0 (mark s k)
          → is_free s k ≡ true → is_free (leave s j) k ≡ false → X k ≡ is_taken (leave s j) k
      go k true q h b n = rw (h, eqb-true k j q) e
      go k false q h b n = absurd (true≢false (sym b ∙ rw h at n))

  pub unleave : (X : ℕ → Bool) → Completion p (leave s j) X → Completion p s X
  unleave = undo p s (leave s j) leave_decides

  pub leave_out : (X : ℕ → Bool) → Completion p (leave s j) X → X j ≡ false
  leave_out X c = rw leave_j at (c.agrees j f.col (rw leave_j))

  pub leave-rest : ((leave s j).cost ≡ s.cost) × ((leave s j).bound ≡ s.bound) × ((leave s j).row ≡ s.row)
  unfolding leave
  leave-rest = (refl, refl, refl)

  pub leave_sound : Sound p s → Sound p (leave s j)
  leave_sound g = decided_sound p s (leave s j) leave_decides g
      (λ i l. rw (leave_gains (λ k. on (covers p i k) 1), leave-rest.2) (omega arith))
      (λ i k l h. rw leave-rest.2 (g.open_free i k l
      (record { free = still_free p s (leave s j) leave_decides k h.free; covering = h.covering })))

  pub leave-less : length (free_columns p (leave s j)) < length (free_columns p s)
  leave-less = decided_less p s (leave s j) leave_decides j f leave_self
