-- One pass over a list: what is left to do from a place on gives the whole, or what was found so far is told of the part that was read; and
-- keeping the better one of each two gives the element that is picked.
use mathlib.Core.Path.{◌≡◌, refl, ap, sym, ◌∙◌}
use mathlib.Core.Bool.{Bool, true, false, cond, false≢true}
use mathlib.Core.List.{List, [], ◌∷◌, ◌++◌}
use Prim.Native.Nat.{ℕ, ◌+◌, ◌-◌, ◌≤◌, ◌<◌}
use native.Mathlib.Nat.{sub-zero}
use native.Mathlib.Omega.{arith}
use lib.ListN.{length, get_or, take, drop, length-take, drop_of_length-le}
use lib.Seq.{take_all}
use borrow.Author.Tests.{eq-eqb, ne_eqb}
use Rattle.node.specs.declared.Node.{Node}
use Rattle.node.specs.Lists.{keep, from, member, pick}
use Rattle.node.specs.Stored.{matrix_in, Kept, HasRow}
use Rattle.node.specs.Node.{is_open, open_rows}
use Rattle.node.specs.Passes.{carry, better, follow, best_in}
use Rattle.node.proofs.Members.{here, there, keep-short, keep_all}
use Rattle.node.proofs.Loops.{drop-step, take_in, take_out, drop_in, drop_out, drop-end, from_next}

-- at place k of a list
pub record Carrying {A : Type 0} (f : A → ℕ → A) (l : List ℕ) (a₀ a : A) (k : ℕ) : Type 0 where
  pub left : carry f a (drop k l) ≡ carry f a₀ l

module _ {A : Type 0} (f : A → ℕ → A) (l : List ℕ) (a₀ a : A) (k : ℕ) (w : Carrying f l a₀ a k) where
  pub carrying_next : k < length l → (next : A) → next ≡ f a (get_or l k 0) → Carrying f l a₀ next (k + 1)
  unfolding carry
  carrying_next h next e = record { left = rw e (sym (ap (carry f a) (drop-step l k h)) ∙ w.left) }

  pub carrying_end : length l ≤ k → a ≡ carry f a₀ l
  unfolding carry
  carrying_end h = sym (ap (carry f a) (drop_of_length-le l h)) ∙ w.left

-- at place k of a list, with no element so far that passes a test
pub record Seeking (t : ℕ → Bool) (l : List ℕ) (k : ℕ) : Type 0 where
  pub left : keep t (drop k l) ≡ keep t l

pub seeking_start : (t : ℕ → Bool) (l : List ℕ) → Seeking t l 0
seeking_start t l = record { left = refl }

module _ (t : ℕ → Bool) (l : List ℕ) (k : ℕ) (w : Seeking t l k) where
  module _ (inside : k < length l) where
    pub seeking_in : t (get_or l k 0) ≡ true → get_or l k 0 ∷ keep t (drop (k + 1) l) ≡ keep t l
    seeking_in h = sym (drop_in t l k inside h) ∙ w.left

    pub seeking_out : t (get_or l k 0) ≡ false → Seeking t l (k + 1)
    seeking_out h = record { left = sym (drop_out t l k inside h) ∙ w.left }

  pub seeking_end : length l ≤ k → [] ≡ keep t l
  seeking_end h = sym (drop-end t l k h) ∙ w.left

-- what is told of the elements that pass a test, among the first k of a list
pub record Telling {A : Type 0} (told : List ℕ → A) (t : ℕ → Bool) (l : List ℕ) (a : A) (k : ℕ) : Type 0 where
  pub within : k ≤ length l
  pub is : a ≡ told (keep t (take k l))

pub telling_start : {A : Type 0} (told : List ℕ → A) (t : ℕ → Bool) (l : List ℕ) → Telling told t l (told []) 0
unfolding keep
telling_start told t l = record { within = omega arith; is = refl }

module _ {A : Type 0} (told : List ℕ → A) (t : ℕ → Bool) (l : List ℕ) (a : A) (k : ℕ) (w : Telling told t l a k) where
  module _ (inside : k < length l) where
    pub telling_few : length (keep t (take k l)) < length l
    telling_few =
        let n : length (take k l) ≤ k = simp length-take (omega arith) in
        omega (arith, keep-short t (take k l))

    -- one more element that passes, and one that does not
    pub telling_in : (more : A → ℕ → A) → ((js : List ℕ) (x : ℕ) → more (told js) x ≡ told (js ++ (x ∷ []))) →
        t (get_or l k 0) ≡ true → (next : A) → next ≡ more a (get_or l k 0) → Telling told t l next (k + 1)
    telling_in more law h next e =
        let x : ℕ = get_or l k 0 in
        record {
          within = omega arith;
          is = e ∙ ap (λ (b : A). more b x) w.is ∙ law (keep t (take k l)) x ∙ ap told (sym (take_in t l k inside h));
        }

    pub telling_out : t (get_or l k 0) ≡ false → Telling told t l a (k + 1)
    telling_out h = record { within = omega arith; is = w.is ∙ ap told (sym (take_out t l k inside h)) }

  pub telling_end : length l ≤ k → a ≡ told (keep t l)
  telling_end h = w.is ∙ ap (λ (m : List ℕ). told (keep t m)) (take_all k l h)

-- the open rows from i on
abbrev open_from : ℕ → Node → ℕ → List ℕ
open_from rows s i = keep (is_open s) (from (rows - i) i)

-- at row i of a pass over the open rows of a kept matrix, which comes to `whole`
pub record Passing {A : Type 0} (f : A → ℕ → A) (whole : A) (l : List ℕ) (s : Node) (rows : ℕ) (a : A) (i : ℕ) : Type 0 where
  pub kept : Kept l
  pub rows_is : rows ≡ (matrix_in l).rows
  pub left : carry f a (open_from rows s i) ≡ whole

pub passing_start : {A : Type 0} (f : A → ℕ → A) (whole : A) (l : List ℕ) (s : Node) (rows : ℕ) (a : A) → Kept l → rows ≡ (matrix_in l).rows →
    carry f a (open_rows (matrix_in l) s) ≡ whole → Passing f whole l s rows a 0
unfolding open_rows
passing_start f whole l s rows a k e h = record { kept = k; rows_is = e; left = rw (sub-zero, e) h }

module _ {A : Type 0} {f : A → ℕ → A} {whole : A} {l : List ℕ} {s : Node} {rows : ℕ} {a : A} {i : ℕ} (w : Passing f whole l s rows a i) where
  module _ (inside : i < rows) where
    pub passing_row : HasRow l i
    passing_row = record { kept = w.kept; row = omega (arith, w.rows_is) }

    pub passing_open : get_or s.row i 0 ≡ 1 → (next : A) → next ≡ f a i → Passing f whole l s rows next (i + 1)
    unfolding carry keep
    passing_open h next e = record {
      kept = w.kept;
      rows_is = w.rows_is;
      left = rw e (rw (from_next rows i inside, eq-eqb (get_or s.row i 0) 1 h) at w.left);
    }

    pub passing_closed : (get_or s.row i 0 ≡ 1 → ⊥) → Passing f whole l s rows a (i + 1)
    unfolding keep
    passing_closed h = record {
      kept = w.kept;
      rows_is = w.rows_is;
      left = rw (from_next rows i inside, ne_eqb (get_or s.row i 0) 1 h) at w.left;
    }

  pub passing_end : rows ≤ i → a ≡ whole
  unfolding carry keep from
  passing_end h = let z : rows - i ≡ 0 = omega arith in rw z at w.left

-- a new best, and one that stays
pub better_so : {A : Type 0} (before : A → A → Bool) (b a : A) (t : Bool) → t ≡ before a b → t ≡ true → a ≡ better before b a
better_so before b a t e h = rw (← e, h)

pub better-not : {A : Type 0} (before : A → A → Bool) (b a : A) (t : Bool) → t ≡ before a b → t ≡ false → b ≡ better before b a
better-not before b a t e h = rw (← e, h)

-- elements that fail a test never come before, so only those that pass it are picked from
module _ {A : Type 0} (told : ℕ → A) (before : A → A → Bool) (first : ℕ → ℕ → Bool) (usable : ℕ → Bool)
    (same : (i k : ℕ) → usable i ≡ true → usable k ≡ true → before (told i) (told k) ≡ first i k)
    (skip : (b : A) (i : ℕ) → usable i ≡ false → before (told i) b ≡ false) where
  chosen : (t : Bool) (i k : ℕ) → usable i ≡ true → usable k ≡ true → usable (cond t i k) ≡ true
  chosen true i k g h = g
  chosen false i k g h = h

  one : (t : Bool) (i k : ℕ) → cond t (told i) (told k) ≡ told (cond t i k)
  one true i k = refl
  one false i k = refl

  follow-some : (xs : List ℕ) (y : ℕ) → usable y ≡ true → follow told before (told y) xs ≡ told (pick first y (keep usable xs))
  unfolding carry keep pick
  follow-some [] y g = refl
  follow-some (x ∷ xs) y g = go (usable x) refl (follow-some xs)
    where
      go : (b : Bool) → usable x ≡ b → ((v : ℕ) → usable v ≡ true → follow told before (told v) xs ≡ told (pick first v (keep usable xs))) →
          follow told before (better before (told y) (told x)) xs ≡ told (pick first y (cond b (x ∷ keep usable xs) (keep usable xs)))
      go true e r = rw (same x y e g, one (first x y) x y) (r (cond (first x y) x y) (chosen (first x y) x y e g))
      go false e r = rw (skip (told y) x e) (r y g)

  -- from a value that every such element comes before
  pub follow-none : (none : A) (xs : List ℕ) → ((x : ℕ) → member x xs ≡ true → usable x ≡ true → before (told x) none ≡ true) →
      follow told before none xs ≡ best_in told first none (keep usable xs)
  unfolding carry keep best_in
  follow-none none [] h = refl
  follow-none none (x ∷ xs) h = go (usable x) refl (follow-none none xs (λ k m. h k (there k x xs m)))
    where
      go : (b : Bool) → usable x ≡ b → follow told before none xs ≡ best_in told first none (keep usable xs) →
          follow told before (better before none (told x)) xs ≡ best_in told first none (cond b (x ∷ keep usable xs) (keep usable xs))
      go true e r = rw (h x (here x xs) e) (follow-some xs x e)
      go false e r = rw (skip none x e) r

-- and where each may be picked
pub follow_all : {A : Type 0} (told : ℕ → A) (before : A → A → Bool) (first : ℕ → ℕ → Bool) →
    ((i k : ℕ) → before (told i) (told k) ≡ first i k) → (none : A) (xs : List ℕ) →
    ((x : ℕ) → member x xs ≡ true → before (told x) none ≡ true) → follow told before none xs ≡ best_in told first none xs
follow_all told before first same none xs h =
    follow-none told before first (λ k. true) (λ i k d e. same i k) (λ b i e. absurd (false≢true (sym e))) none xs (λ x m e. h x m)
    ∙ ap (best_in told first none) (keep_all xs)
