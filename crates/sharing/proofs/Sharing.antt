-- Columns that share a row with a column: row after row of its body, the columns that are marked are those that cover one of the rows so
-- far, and each new mark is counted once.
use mathlib.Core.Path.{◌≡◌, refl, ap, sym, ◌∙◌}
use mathlib.Core.Bool.{Bool, true, false, cond, ◌&&◌, ◌||◌, false≢true, and-false, or-false}
use mathlib.Core.List.{List, [], ◌∷◌, ◌++◌}
use mathlib.Core.Logic.{⊎_elim}
use Prim.Native.Nat.{ℕ, suc, ◌+◌, ◌-◌, ◌≤◌, ◌<◌}
use native.Mathlib.Omega.{arith}
use lib.ListN.{length, get_or, take, get_or-eq_default}
use lib.Dec.{eqb, ltb}
use borrow.Author.Tests.{le-ltb, ltb-true, ltb-false}
use Rattle.node.specs.declared.Node.{Node}
use Rattle.node.specs.Lists.{keep, member, upto}
use Rattle.node.specs.Matrix.{Matrix, width, columns, body, covers, meets}
use Rattle.node.specs.Node.{is_free, cost_at, free_columns}
use Rattle.rules.specs.Tree.{sum, sharing}
use Rattle.node.proofs.Members.{same_bool, here, there, member-cases, kept, upto_lt, keep_cong, keep-upto}
use Rattle.node.proofs.Shares.{meets_at, meets_of}
use Rattle.node.specs.Stored.{Small, matrix_in, HasBody, row_columns}
use Rattle.node.proofs.Parts.{row-covers}
use Rattle.node.proofs.Loops.{take_step}
use Rattle.node.specs.View.{view}
use Rattle.candidates.specs.Row.{zero_in}
use Rattle.candidates.proofs.Keep.{keep-none}
use Rattle.sharing.specs.Sharing.{common, sharing_in, is_seen, Counted}

-- two tests in turn
pub keep_both : (t u : ℕ → Bool) (xs : List ℕ) → keep t (keep u xs) ≡ keep (λ k. u k && t k) xs
unfolding keep
keep_both t u [] = refl
keep_both t u (x ∷ xs) = go (u x) (keep_both t u xs)
  where
    go : (b : Bool) → keep t (keep u xs) ≡ keep (λ k. u k && t k) xs →
        keep t (cond b (x ∷ keep u xs) (keep u xs)) ≡ cond (b && t x) (x ∷ keep (λ k. u k && t k) xs) (keep (λ k. u k && t k) xs)
    go true h = rw h
    go false h = h

-- a member in common
common-more : (xs : List ℕ) (x : ℕ) (ys : List ℕ) → common (xs ++ (x ∷ [])) ys ≡ (common xs ys || member x ys)
unfolding common
common-more [] x ys = or-false (member x ys)
common-more (w ∷ xs) x ys = rw (common-more xs x ys) (go (member w ys))
  where
    go : (b : Bool) → (b || (common xs ys || member x ys)) ≡ ((b || common xs ys) || member x ys)
    go true = refl
    go false = refl

common_of : (xs ys : List ℕ) (r : ℕ) → member r xs ≡ true → member r ys ≡ true → common xs ys ≡ true
unfolding common member
common_of [] ys r a b = a
common_of (x ∷ xs) ys r a b =
    ⊎_elim (λ e. let q : member x ys ≡ true = sym (ap (λ (k : ℕ). member k ys) e) ∙ b in rw q) (λ m. go (member x ys) (common_of xs ys r m b)) (member-cases r x xs a)
  where
    go : (b : Bool) → common xs ys ≡ true → (b || common xs ys) ≡ true
    go true h = refl
    go false h = h

common-at : (xs ys : List ℕ) → common xs ys ≡ true → (r : ℕ) × (member r xs ≡ true) × (member r ys ≡ true)
unfolding common
common-at [] ys h = absurd (false≢true h)
common-at (x ∷ xs) ys h = go (member x ys) refl h (λ g. common-at xs ys g)
  where
    go : (b : Bool) → member x ys ≡ b → (b || common xs ys) ≡ true →
        (common xs ys ≡ true → (r : ℕ) × (member r xs ≡ true) × (member r ys ≡ true)) →
        (r : ℕ) × (member r (x ∷ xs) ≡ true) × (member r ys ≡ true)
    go true e g f = (x, here x xs, e)
    go false e g f = let q = f g in (q.0, there q.0 x xs q.1, q.2)

-- two columns meet where their bodies have a row in common
meets-common : (p : Matrix) → Small p → (j k : ℕ) → j < width p → meets p j k ≡ common (body p j) (body p k)
unfolding covers
meets-common p s j k l =
    same_bool (meets p j k) (common (body p j) (body p k))
    (λ h. let q = meets_at p j k h in common_of (body p j) (body p k) (suc q.0) q.2 q.3)
    (λ h.
    let q = common-at (body p j) (body p k) h in
    let n = s.numbered j q.0 l q.1 in
    let e : suc (q.0 - 1) ≡ q.0 = omega (arith, n.0) in
    meets_of p (q.0 - 1) j k (omega (arith, n.0, n.1)) (rw e q.1) (rw e q.2))

pub sharing-is : (p : Matrix) → Small p → (cost column : List ℕ) (j : ℕ) → j < width p →
    sharing_in p (zero_in cost column) (body p j) ≡ sharing (sum p) p (view cost column []) j
unfolding sharing free_columns
sharing-is p q cost column j l =
    let s : Node = view cost column [] in
    sym (ap length
    (keep_both (meets p j) (λ k. eqb (cost_at s k) 0) (keep (is_free s) (columns p))
    ∙ keep_both (λ k. eqb (cost_at s k) 0 && meets p j k) (is_free s) (columns p)
    ∙ keep_cong (λ k. is_free s k && (eqb (cost_at s k) 0 && meets p j k)) (λ k. zero_in cost column k && common (body p j) (body p k)) (columns p)
    (λ k m. rw (meets-common p q j k l) (go (is_free s k) (eqb (cost_at s k) 0) (common (body p j) (body p k))))))
  where
    go : (a b c : Bool) → (a && (b && c)) ≡ ((a && b) && c)
    go true b c = refl
    go false b c = refl

keep-nothing : (t : ℕ → Bool) (n : ℕ) → ((k : ℕ) → k < n → t k ≡ false) → length (keep t (upto n)) ≡ 0
keep-nothing t n h = ap length (keep-none t (upto n) (λ k m. h k (upto_lt n k m)))

-- with the first k rows of a body seen
pub record Sharing (l cost column rs seen : List ℕ) (count k : ℕ) : Type 0 where
  pub has : HasBody l rs
  pub within : k ≤ length rs
  pub long : length seen ≡ 256
  pub marks : (j : ℕ) → is_seen seen j ≡ (zero_in cost column j && common (take k rs) (body (matrix_in l) j))
  pub counts : count ≡ length (keep (is_seen seen) (columns (matrix_in l)))

pub sharing_start : (l cost column rs seen : List ℕ) → HasBody l rs → length seen ≡ 256 → ((k : ℕ) → k < 256 → get_or seen k 0 ≡ 0) →
    Sharing l cost column rs seen 0 0
unfolding common
sharing_start l cost column rs seen h e z =
    let none : (j : ℕ) → is_seen seen j ≡ false = λ j. le-ltb 0 (get_or seen j 0) (omega (arith, zero-at j)) in
    record {
      has = h;
      within = omega arith;
      long = e;
      marks = λ j. none j ∙ sym (and-false (zero_in cost column j));
      counts = sym (keep-nothing (is_seen seen) (width (matrix_in l)) (λ j b. none j));
    }
  where
    zero-at : (j : ℕ) → get_or seen j 0 ≡ 0
    zero-at j = go (ltb j 256) refl
      where
        go : (b : Bool) → ltb j 256 ≡ b → get_or seen j 0 ≡ 0
        go true q = z j (ltb-true j 256 q)
        go false q = get_or-eq_default seen 0 (omega (arith, ltb-false j 256 q))

module _ (l cost column rs seen : List ℕ) (count k : ℕ) (w : Sharing l cost column rs seen count k) (inside : k < length rs) where
  abbrev p : Matrix
  p = matrix_in l

  abbrev row : ℕ
  row = get_or rs k 0 - 1

  -- the row's columns
  module _ (js : List ℕ) (is : js ≡ row_columns p row) (after : List ℕ) (r : ℕ) (told : Counted (zero_in cost column) js seen after r) where
    counts_next : count + r ≡ length (keep (is_seen after) (columns p))
    counts_next =
        omega (
          arith,
          w.counts,
          told.counts (width p) (λ j m. upto_lt (width p) j (kept (covers p row) j (columns p) (sym (ap (member j) is) ∙ m)).1),
        )

    -- the count stays small
    pub sharing-few : count + r < 4294967296
    sharing-few = omega (arith, counts_next, keep-upto (is_seen after) (width p), w.has.kept.small.fits.wide)

    pub sharing_next : Sharing l cost column rs after (count + r) (k + 1)
    unfolding covers
    sharing_next = record {
      has = w.has;
      within = omega arith;
      long = told.long ∙ w.long;
      marks = λ j.
          let e : suc row ≡ get_or rs k 0 = omega (arith, (w.has.numbered k inside).0) in
          let m : member j js ≡ member (get_or rs k 0) (body p j) = ap (member j) is ∙ row-covers p row j ∙ rw e in
          told.seen j
          ∙ rw (w.marks j, m, take_step rs k inside, common-more (take k rs) (get_or rs k 0) (body p j))
          (go (zero_in cost column j) (common (take k rs) (body p j)) (member (get_or rs k 0) (body p j)));
      counts = counts_next;
    }
      where
        go : (a b c : Bool) → ((a && b) || (a && c)) ≡ (a && (b || c))
        go true b c = refl
        go false b c = refl
