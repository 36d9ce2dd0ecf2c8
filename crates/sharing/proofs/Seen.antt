-- Columns marked as they are seen: a column that is marked already stays as it is, so a new mark is one more, and the marks are those of
-- the columns that pass the test.
use mathlib.Core.Path.{◌≡◌, refl, ap, sym, ◌∙◌}
use mathlib.Core.Bool.{Bool, true, false, ◌&&◌, ◌||◌, false≢true, or-false}
use mathlib.Core.List.{List, [], ◌∷◌, ◌++◌}
use Prim.Native.Nat.{ℕ, ◌+◌, ◌≤◌, ◌<◌}
use native.Mathlib.Nat.{zero-add}
use native.Mathlib.Omega.{arith}
use lib.ListN.{length, get_or, set, take, length-set}
use lib.Seq.{get_or-set_same, get_or-set_other}
use lib.Dec.{eqb}
use borrow.Author.Tests.{eqb-true, eqb-false, le-ltb, lt-ltb}
use Rattle.node.specs.Lists.{keep, member, upto, on}
use Rattle.node.proofs.Loops.{take_step}
use Rattle.rules.proofs.Sums.{total-add, total-at, length-keep}
use Rattle.sharing.specs.Sharing.{is_seen, Counted}

-- membership with one more element
pub member-more : (a x : ℕ) (xs : List ℕ) → member a (xs ++ (x ∷ [])) ≡ (member a xs || eqb a x)
unfolding member
member-more a x [] = or-false (eqb a x)
member-more a x (y ∷ ys) = rw (member-more a x ys) (go (eqb a y))
  where
    go : (b : Bool) → (b || (member a ys || eqb a x)) ≡ ((b || member a ys) || eqb a x)
    go true = refl
    go false = refl

seen-set : (seen : List ℕ) (x k : ℕ) → x < length seen → is_seen (set seen x 1) k ≡ (is_seen seen k || eqb k x)
seen-set seen x k l = go (eqb k x) refl
  where
    both : (b : Bool) → true ≡ (b || true)
    both true = refl
    both false = refl

    go : (b : Bool) → eqb k x ≡ b → is_seen (set seen x 1) k ≡ (is_seen seen k || b)
    go true e = rw (eqb-true k x e, get_or-set_same seen x 1 0 l) (both (is_seen seen x))
    go false e = rw (get_or-set_other seen x k 1 0 (eqb-false k x e)) (sym (or-false (is_seen seen k)))

-- one more mark
seen_more : (seen : List ℕ) (x n : ℕ) → x < length seen → is_seen seen x ≡ false → x < n →
    1 + length (keep (is_seen seen) (upto n)) ≡ length (keep (is_seen (set seen x 1)) (upto n))
seen_more seen x n l h b =
    omega (
      arith,
      length-keep n (is_seen seen),
      length-keep n (is_seen (set seen x 1)),
      total-at n x (λ k. 1) b,
      total-add n (λ k. on (is_seen (set seen x 1) k) 1) (λ k. on (is_seen seen k) 1) (λ k. on (eqb k x) 1)
          (λ k m. rw (seen-set seen x k l) (each k (is_seen seen k) (eqb k x) refl refl)),
    )
  where
    each : (k : ℕ) (a c : Bool) → is_seen seen k ≡ a → eqb k x ≡ c → on (a || c) 1 ≡ on a 1 + on c 1
    each k true true p q = absurd (false≢true (sym h ∙ sym (ap (is_seen seen) (eqb-true k x q)) ∙ p))
    each k true false p q = refl
    each k false true p q = refl
    each k false false p q = refl

module _ (z : ℕ → Bool) (row before seen : List ℕ) (count : ℕ) (w : Counted z row before seen count) (x : ℕ) where
  -- bounds of the list with one more are bounds of the list and of that one
  bound-front : (n : ℕ) → ((k : ℕ) → member k (row ++ (x ∷ [])) ≡ true → k < n) → (k : ℕ) → member k row ≡ true → k < n
  bound-front n h k m = h k (member-more k x row ∙ rw m)

  bound_last : (n : ℕ) → ((k : ℕ) → member k (row ++ (x ∷ [])) ≡ true → k < n) → x < n
  bound_last n h = h x (member-more x x row ∙ go (member x row) (eqb x x) refl)
    where
      go : (a b : Bool) → eqb x x ≡ b → (a || b) ≡ true
      go true b e = refl
      go false true e = refl
      go false false e = absurd (eqb-false x x e refl)

  pub counted_new : z x ≡ true → is_seen seen x ≡ false → x < length seen → Counted z (row ++ (x ∷ [])) before (set seen x 1) (count + 1)
  counted_new t f l = record {
    long = length-set seen x 1 ∙ w.long;
    seen = λ k. seen-set seen x k l ∙ rw (w.seen k, member-more k x row) (go k (is_seen before k) (z k) (member k row) (eqb k x) refl refl);
    counts = λ n h. omega (arith, w.counts n (bound-front n h), seen_more seen x n l f (bound_last n h));
  }
    where
      go : (k : ℕ) (a b c d : Bool) → z k ≡ b → eqb k x ≡ d → ((a || (b && c)) || d) ≡ (a || (b && (c || d)))
      go k true b c d p q = refl
      go k false true c d p q = refl
      go k false false c true p q = absurd (false≢true (sym p ∙ ap z (eqb-true k x q) ∙ t))
      go k false false c false p q = refl

  pub counted_same : (z x ≡ true → is_seen seen x ≡ true) → Counted z (row ++ (x ∷ [])) before seen count
  counted_same t = record {
    long = w.long;
    seen = λ k. w.seen k ∙ rw (member-more k x row) (go k (is_seen before k) (z k) (member k row) (eqb k x) refl refl refl refl);
    counts = λ n h. w.counts n (bound-front n h);
  }
    where
      go : (k : ℕ) (a b c d : Bool) → is_seen before k ≡ a → z k ≡ b → member k row ≡ c → eqb k x ≡ d →
          (a || (b && c)) ≡ (a || (b && (c || d)))
      go k true b c d e f g q = refl
      go k false false c d e f g q = refl
      go k false true true d e f g q = refl
      go k false true false false e f g q = refl
      go k false true false true e f g q =
          let i : k ≡ x = eqb-true k x q in
          absurd (false≢true (sym (w.seen k ∙ rw (e, f, g)) ∙ ap (is_seen seen) i ∙ t (sym (ap z i) ∙ f)))

-- at column k of a row
pub record Marking (z : ℕ → Bool) (row before seen : List ℕ) (count k : ℕ) : Type 0 where
  pub few : length row ≤ 4096
  pub within : k ≤ length row
  pub long : length seen ≡ 256
  pub less : count ≤ k
  pub done : Counted z (take k row) before seen count

pub marking_start : (z : ℕ → Bool) (row seen : List ℕ) → length row ≤ 4096 → length seen ≡ 256 → Marking z row seen seen 0 0
unfolding member
marking_start z row seen f l = record {
  few = f;
  within = omega arith;
  long = l;
  less = omega arith;
  done = record { long = refl; seen = λ k. go (is_seen seen k) (z k); counts = λ n h. zero-add (length (keep (is_seen seen) (upto n))) };
}
  where
    go : (a b : Bool) → a ≡ (a || (b && false))
    go true b = refl
    go false true = refl
    go false false = refl

module _ (z : ℕ → Bool) (row before seen : List ℕ) (count k : ℕ) (w : Marking z row before seen count k) where
  module _ (inside : k < length row) where
    pub marking_new : z (get_or row k 0) ≡ true → get_or seen (get_or row k 0) 0 ≡ 0 → get_or row k 0 < 256 →
        Marking z row before (set seen (get_or row k 0) 1) (count + 1) (k + 1)
    marking_new t e l = record {
      few = w.few;
      within = omega arith;
      long = length-set seen (get_or row k 0) 1 ∙ w.long;
      less = omega (arith, w.less);
      done =
          rw (take_step row k inside) (counted_new z (take k row) before seen count w.done (get_or row k 0) t (le-ltb 0 (get_or seen (get_or row k 0) 0) (omega arith))
          (omega (arith, w.long)));
    }

    same : (z (get_or row k 0) ≡ true → is_seen seen (get_or row k 0) ≡ true) → Marking z row before seen count (k + 1)
    same t = record {
      few = w.few;
      within = omega arith;
      long = w.long;
      less = omega (arith, w.less);
      done = rw (take_step row k inside) (counted_same z (take k row) before seen count w.done (get_or row k 0) t);
    }

    pub marking_old : (get_or seen (get_or row k 0) 0 ≡ 0 → ⊥) → Marking z row before seen count (k + 1)
    marking_old n = same (λ t. lt-ltb 0 (get_or seen (get_or row k 0) 0) (omega arith))

    pub marking_other : z (get_or row k 0) ≡ false → Marking z row before seen count (k + 1)
    marking_other f = same (λ t. absurd (false≢true (sym f ∙ t)))
