-- The open rows that are left, read one by one, give what all open rows ask: a row without a free column wins, and else the first row
-- with just one.
use mathlib.Core.Path.{◌≡◌, refl, ap, sym, ◌∙◌}
use mathlib.Core.List.{List, [], ◌∷◌}
use Prim.Native.Nat.{ℕ, ◌+◌, ◌<◌}
use native.Mathlib.Omega.{arith}
use lib.ListN.{length, get_or}
use lib.Dec.{eqb}
use borrow.Author.Tests.{eq-eqb, ne_eqb}
use Rattle.node.specs.declared.Node.{Node}
use Rattle.node.specs.Lists.{keep, first}
use Rattle.node.specs.Passes.{carry}
use Rattle.node.specs.Matrix.{Matrix}
use Rattle.node.specs.Node.{free_of, open_rows}
use Rattle.node.specs.Stored.{matrix_in, Kept, row_columns}
use Rattle.node.proofs.Passes.{Passing, passing_start, passing_open}
use Rattle.node.proofs.Parts.{free-row}
use Rattle.rules.specs.declared.Asked.{Asked}
use Rattle.rules.specs.declared.Asked.TheVariants.{Dead, Take, Settled}
use Rattle.rules.specs.Force.{rows_with, asked_by, asked}
use Rattle.forcing.specs.Rows.{free_in, asks_by, sooner}

-- what was asked so far, and then some rows one after another
abbrev pub follow : Matrix → Node → Asked → List ℕ → Asked
follow p s a is = carry (λ b i. sooner b (asks_by (free_of p s i))) a is

module _ (p : Matrix) (s : Node) where
  -- the rows with n free columns
  with-free : ℕ → List ℕ → List ℕ
  with-free n xs = keep (λ i. eqb (length (free_of p s i)) n) xs

  follow-dead : (xs : List ℕ) → follow p s Dead xs ≡ Dead
  unfolding carry sooner
  follow-dead [] = refl
  follow-dead (x ∷ xs) = follow-dead xs

  -- after a row with one free column, with zs the rows without any
  unless : List ℕ → Asked → Asked
  unless [] a = a
  unless (z ∷ zs) a = Dead

  follow-take : (j : ℕ) (xs : List ℕ) → follow p s (Take j) xs ≡ unless (with-free 0 xs) (Take j)
  unfolding carry sooner with-free keep unless asks_by
  follow-take j [] = refl
  follow-take j (x ∷ xs) = go (free_of p s x) refl (follow-take j xs)
    where
      go : (js : List ℕ) → free_of p s x ≡ js → follow p s (Take j) xs ≡ unless (with-free 0 xs) (Take j) →
          follow p s (sooner (Take j) (asks_by (free_of p s x))) xs ≡ unless (with-free 0 (x ∷ xs)) (Take j)
      go [] e r = rw (eq-eqb (length (free_of p s x)) 0 (ap length e), e) (follow-dead xs)
      go (a ∷ []) e r = rw (ne_eqb (length (free_of p s x)) 0 (λ q. omega (arith, ap length e)), e) r
      go (a ∷ (b ∷ bs)) e r = rw (ne_eqb (length (free_of p s x)) 0 (λ q. omega (arith, ap length e)), e) r

  take_by : (x j : ℕ) (zs os : List ℕ) → free_of p s x ≡ j ∷ [] → unless zs (Take j) ≡ asked_by p s zs (x ∷ os)
  unfolding unless asked_by first
  take_by x j [] os e = rw e
  take_by x j (z ∷ zs) os e = refl

  follow-settled : (xs : List ℕ) → follow p s Settled xs ≡ asked_by p s (with-free 0 xs) (with-free 1 xs)
  unfolding carry sooner with-free keep asked_by asks_by
  follow-settled [] = refl
  follow-settled (x ∷ xs) = go (free_of p s x) refl (follow-settled xs)
    where
      go : (js : List ℕ) → free_of p s x ≡ js → follow p s Settled xs ≡ asked_by p s (with-free 0 xs) (with-free 1 xs) →
          follow p s (sooner Settled (asks_by (free_of p s x))) xs ≡ asked_by p s (with-free 0 (x ∷ xs)) (with-free 1 (x ∷ xs))
      go [] e r = rw (eq-eqb (length (free_of p s x)) 0 (ap length e), e) (follow-dead xs)
      go (a ∷ []) e r =
          rw (ne_eqb (length (free_of p s x)) 0 (λ q. omega (arith, ap length e)), eq-eqb (length (free_of p s x)) 1 (ap length e), e)
          (follow-take a xs ∙ take_by x a (with-free 0 xs) (with-free 1 xs) e)
      go (a ∷ (b ∷ bs)) e r =
          rw (
            ne_eqb (length (free_of p s x)) 0 (λ q. omega (arith, ap length e)),
            ne_eqb (length (free_of p s x)) 1 (λ q. omega (arith, ap length e)),
            e,
          ) r

  asked_is : follow p s Settled (open_rows p s) ≡ asked p s
  unfolding asked rows_with with-free
  asked_is = follow-settled (open_rows p s)

sooner-dead : (a : Asked) → sooner a Dead ≡ Dead
unfolding sooner
sooner-dead Dead = refl
sooner-dead (Take j) = refl
sooner-dead Settled = refl

-- at row i
abbrev pub Asking : List ℕ → Node → ℕ → Asked → ℕ → Type 0
Asking l s = Passing (λ b x. sooner b (asks_by (free_of (matrix_in l) s x))) (asked (matrix_in l) s) l s

pub asking_start : (l : List ℕ) (s : Node) (rows : ℕ) → Kept l → rows ≡ (matrix_in l).rows → Asking l s rows Settled 0
asking_start l s rows k e = passing_start _ _ l s rows Settled k e (asked_is (matrix_in l) s)

module _ (l : List ℕ) (s : Node) (rows : ℕ) (found : Asked) (i : ℕ) (w : Asking l s rows found i) (inside : i < rows) (h : get_or s.row i 0 ≡ 1)
    (next : Asked) (told : next ≡ asks_by (free_in s.column (row_columns (matrix_in l) i))) where
  pub asking_open : (out : Asked) → out ≡ sooner found next → Asking l s rows out (i + 1)
  asking_open out is = passing_open w inside h out (is ∙ rw (told, ← free-row (matrix_in l) s i))

  -- a row without a free column decides
  pub asking-dead : next ≡ Dead → Dead ≡ asked (matrix_in l) s
  asking-dead is = sym (follow-dead (matrix_in l) s _) ∙ (asking_open Dead (sym (ap (sooner found) is ∙ sooner-dead found))).left
