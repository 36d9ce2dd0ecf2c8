-- The step: the table that all columns of a row give has the amount off the cost of each free one.
use mathlib.Core.Path.{◌≡◌, refl, sym, ◌∙◌}
use mathlib.Core.Bool.{Bool, true, false, cond, ◌&&◌, ◌||◌, and-false}
use mathlib.Core.List.{List, [], ◌∷◌}
use Prim.Native.Nat.{ℕ, zero, suc, ◌+◌, ◌-◌, ◌≤◌, ◌<◌}
use native.Mathlib.Nat.{sub-zero}
use native.Mathlib.Omega.{arith}
use lib.ListN.{length, get_or, set, length-set, length-map}
use lib.Seq.{get_or-set_same, get_or-set_other}
use lib.Dec.{eqb}
use borrow.Author.Tests.{eqb-true, eqb-false, eq-eqb, ne_eqb}
use Rattle.node.proofs.Loops.{table_ext}
use Rattle.node.specs.declared.Node.{Node}
use Rattle.node.specs.Lists.{member, keep, from, upto, on}
use Rattle.node.specs.Passes.{carry}
use Rattle.node.specs.Matrix.{Matrix, width, covers}
use Rattle.node.specs.Stored.{row_columns}
use Rattle.node.proofs.Members.{kept, member-at, length_from}
use Rattle.node.proofs.Passes.{Carrying, carrying_next, carrying_end}
use Rattle.node.specs.View.{view}
use Rattle.node.specs.Node.{is_free, cost_at}
use Rattle.rules.specs.Reduce as rules
use Rattle.rules.proofs.Plans.{FreeIn}
use Rattle.node.proofs.Parts.{row-column, row-covers}
use Rattle.candidates.proofs.Keep.{from_high}
use Rattle.lowering.specs.Lower.{lower_one, lower_at, Covered, Rising}

-- a free column, and another one
module _ (column cost : List ℕ) (a : ℕ) (out : List ℕ) (j : ℕ) where
  pub lowered-free : get_or column j 0 ≡ 1 → set out j (get_or cost j 0 - a) ≡ lower_one column cost a out j
  unfolding lower_one
  lowered-free h = rw (eq-eqb (get_or column j 0) 1 h)

  pub lowered_other : (get_or column j 0 ≡ 1 → ⊥) → out ≡ lower_one column cost a out j
  unfolding lower_one
  lowered_other h = rw (ne_eqb (get_or column j 0) 1 h)

-- at place k of a row whose numbers rise, the costs of the columns that are left are as they were
pub record Lowering (column cost : List ℕ) (a : ℕ) (row out : List ℕ) (k : ℕ) : Type 0 where
  pub left : Carrying (lower_one column cost a) row cost out k
  pub same : (n : ℕ) → k ≤ n → n < length row → get_or out (get_or row n 0) 0 ≡ get_or cost (get_or row n 0) 0

module _ (column cost : List ℕ) (a : ℕ) (row out : List ℕ) (k : ℕ) (w : Lowering column cost a row out k) where
  module _ (inside : k < length row) where
    pub lowering_free : Rising row → get_or column (get_or row k 0) 0 ≡ 1 →
        Lowering column cost a row (set out (get_or row k 0) (get_or out (get_or row k 0) 0 - a)) (k + 1)
    lowering_free r h =
        let j : ℕ = get_or row k 0 in
        let e : get_or out j 0 ≡ get_or cost j 0 = w.same k (omega arith) inside in
        record {
          left = rw e (carrying_next _ _ _ _ _ w.left inside _ (lowered-free column cost a out j h));
          same = λ n g l.
              get_or-set_other out j (get_or row n 0) (get_or out j 0 - a) 0 (λ q. omega (arith, r k n (omega arith) l))
              ∙ w.same n (omega arith) l;
        }

    pub lowering_other : (get_or column (get_or row k 0) 0 ≡ 1 → ⊥) → Lowering column cost a row out (k + 1)
    lowering_other h = record {
      left = carrying_next _ _ _ _ _ w.left inside _ (lowered_other column cost a out (get_or row k 0) h);
      same = λ n g l. w.same n (omega arith) l;
    }

  pub lowering_end : length row ≤ k → out ≡ lower_at column cost a row cost
  lowering_end l = carrying_end _ _ _ _ _ w.left l

-- the numbers of a row rise
keep-rising : (t : ℕ → Bool) (n k : ℕ) → Rising (keep t (from n k))
unfolding keep from
keep-rising t zero k = λ a b h l. absurd (omega arith)
keep-rising t (suc n) k = go (t k) (keep-rising t n (suc k))
  where
    first : (b : ℕ) → b < length (keep t (from n (suc k))) → k < get_or (keep t (from n (suc k))) b 0
    first b l =
        let x : ℕ = get_or (keep t (from n (suc k))) b 0 in
        omega (arith, from_high n (suc k) x (kept t x (from n (suc k)) (member-at (keep t (from n (suc k))) b l)).1)

    more : Rising (keep t (from n (suc k))) → Rising (k ∷ keep t (from n (suc k)))
    more r a zero h l = absurd (omega arith)
    more r zero (suc b) h l = first b (omega arith)
    more r (suc a) (suc b) h l = r a b (omega arith) (omega arith)

    go : (c : Bool) → Rising (keep t (from n (suc k))) → Rising (cond c (k ∷ keep t (from n (suc k))) (keep t (from n (suc k))))
    go false r = r
    go true r = more r

pub row-rising : (p : Matrix) (i : ℕ) (row : List ℕ) → row ≡ row_columns p i → Rising row
row-rising p i row e = rw e (keep-rising (covers p i) (width p) 0)

-- a place of the lowered costs
module _ (column cost : List ℕ) (a : ℕ) where
  free : ℕ → Bool
  free j = eqb (get_or column j 0) 1

  one_at : (out : List ℕ) (j k : ℕ) → k < length out →
      get_or (lower_one column cost a out j) k 0 ≡ cond (free j && eqb k j) (get_or cost k 0 - a) (get_or out k 0)
  unfolding lower_one free
  one_at out j k l = go (eqb (get_or column j 0) 1) (eqb k j) refl
    where
      go : (b e : Bool) → eqb k j ≡ e →
          get_or (cond b (set out j (get_or cost j 0 - a)) out) k 0 ≡ cond (b && e) (get_or cost k 0 - a) (get_or out k 0)
      go false e q = refl
      go true true q = rw (← eqb-true k j q) (get_or-set_same out k (get_or cost k 0 - a) 0 l)
      go true false q = get_or-set_other out j k (get_or cost j 0 - a) 0 (eqb-false k j q)

  length-one : (out : List ℕ) (j : ℕ) → length (lower_one column cost a out j) ≡ length out
  unfolding lower_one
  length-one out j = go (eqb (get_or column j 0) 1)
    where
      go : (b : Bool) → length (cond b (set out j (get_or cost j 0 - a)) out) ≡ length out
      go true = length-set out j (get_or cost j 0 - a)
      go false = refl

  pub length-lower : (js out : List ℕ) → length (lower_at column cost a js out) ≡ length out
  unfolding carry
  length-lower [] out = refl
  length-lower (j ∷ js) out = length-lower js (lower_one column cost a out j) ∙ length-one out j

  lower_at_lem : (js out : List ℕ) (k : ℕ) → k < length out →
      get_or (lower_at column cost a js out) k 0 ≡ cond (free k && member k js) (get_or cost k 0 - a) (get_or out k 0)
  unfolding carry member free
  lower_at_lem [] out k l = rw (and-false (eqb (get_or column k 0) 1))
  lower_at_lem (j ∷ js) out k l =
      lower_at_lem js (lower_one column cost a out j) k (rw (length-one out j) l) ∙ rw (one_at out j k l) (go (eqb k j) refl)
    where
      pair : (f m : Bool) (x y : ℕ) → cond (f && m) x (cond (f && true) x y) ≡ cond (f && true) x y
      pair true true x y = refl
      pair true false x y = refl
      pair false m x y = refl

      go : (e : Bool) → eqb k j ≡ e →
          cond (eqb (get_or column k 0) 1 && member k js) (get_or cost k 0 - a) (cond (eqb (get_or column j 0) 1 && e) (get_or cost k 0 - a) (get_or out k 0))
          ≡ cond (eqb (get_or column k 0) 1 && (e || member k js)) (get_or cost k 0 - a) (get_or out k 0)
      go true e =
          let q : k ≡ j = eqb-true k j e in
          rw (sym q) (pair (eqb (get_or column k 0) 1) (member k js) (get_or cost k 0 - a) (get_or out k 0))
      go false e = rw (and-false (eqb (get_or column j 0) 1))

module _ (p : Matrix) (i : ℕ) (cost column : List ℕ) (a : ℕ) (row : List ℕ) (is : row ≡ row_columns p i) where
  -- the amount can leave the free columns of the row
  pub row-covered : ((j : ℕ) → FreeIn p (view cost column []) i j → a ≤ get_or cost j 0) → Covered column cost a row
  row-covered h = rw is (λ n m f.
      let j : ℕ = get_or (row_columns p i) n 0 in
      let r = row-column p i n m in
      h j (record { free = record { col = r.0; is_free_true = eq-eqb (get_or column j 0) 1 f }; covering = r.1 }))

  pub lower-is : length cost ≡ 256 → (out : List ℕ) → out ≡ lower_at column cost a row cost →
      out ≡ (rules.lower p (view cost column []) i a).cost
  unfolding rules.lower free
  lower-is w out e =
      let s : Node = view cost column [] in
      let t : ℕ → ℕ = λ j. cost_at s j - on (is_free s j && covers p i j) a in
      let f : out ≡ lower_at column cost a (row_columns p i) cost = rw is at e in
      f ∙ table_ext 256 t (lower_at column cost a (row_columns p i) cost)
      (length-lower column cost a (row_columns p i) cost ∙ w)
      (λ j m. lower_at_lem column cost a (row_columns p i) cost j (omega arith)
      ∙ rw (row-covers p i j) (go (is_free s j && covers p i j) (cost_at s j)))
    where
      go : (b : Bool) (x : ℕ) → cond b (x - a) x ≡ x - on b a
      go true x = refl
      go false x = rw sub-zero

pub lower-wide : (p : Matrix) (s : Node) (i a : ℕ) → length (rules.lower p s i a).cost ≡ 256
unfolding rules.lower
lower-wide p s i a = length-map (upto 256) (λ j. cost_at s j - on (is_free s j && covers p i j) a) ∙ length_from 256 0

-- the whole step: the amount also joins the bound
pub lower-node : (p : Matrix) (s : Node) (column : List ℕ) (i a : ℕ) → s.column ≡ column → (out : List ℕ) →
    out ≡ (rules.lower p (view s.cost column []) i a).cost →
    record { cost = out; column = s.column; row = s.row; bound = s.bound + a } ≡ rules.lower p s i a
unfolding rules.lower
lower-node p s column i a c out e = rw (e, ← c)
