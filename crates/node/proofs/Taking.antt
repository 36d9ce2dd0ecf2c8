-- Taking a column: a body closes its own rows and no other; a mark changes to 0 where it was 1 and the column is in one of these rows,
-- that is, where it shares a row with the column taken.
use mathlib.Core.Path.{◌≡◌, refl, ap, ◌∙◌}
use mathlib.Core.Bool.{Bool, true, false, cond, ◌&&◌, ◌||◌, false≢true, or-true}
use mathlib.Core.List.{List, [], ◌∷◌}
use mathlib.Core.Logic.{⊎_elim}
use Prim.Native.Nat.{ℕ, suc, ◌-◌, ◌<◌}
use native.Mathlib.Omega.{arith}
use lib.ListN.{length, get_or, set, length-set}
use lib.Seq.{get_or-set_same, get_or-set_other}
use lib.Dec.{eqb}
use borrow.Author.Tests.{eqb-true, eqb-false, eq-eqb, ne_eqb}
use Rattle.node.specs.declared.Node.{Node}
use Rattle.node.specs.Lists.{member, table}
use Rattle.node.specs.Matrix.{Matrix, width, body, covers, meets}
use Rattle.node.specs.Node.{mark, is_free, take, leave}
use Rattle.node.specs.Stored.{Small, matrix_in, HasColumn, Body, HasBody, row_columns}
use Rattle.node.specs.Passes.{carry}
use Rattle.node.specs.Taking.{closed, dropped, all_dropped, rows_dropped}
use Rattle.node.proofs.Members.{same_bool, here, there, member-cases}
use Rattle.node.proofs.Loops.{table_ext}
use Rattle.node.proofs.Shares.{meets_at, meets_of}
use Rattle.node.proofs.Parts.{body-rows, body_in_rows, row-covers}

-- a place of a list with one place set
set_at : (l : List ℕ) (n j v k : ℕ) → length l ≡ n → k < n → get_or (set l j v) k 0 ≡ cond (eqb k j) v (get_or l k 0)
set_at l n j v k e h = go (eqb k j) refl
  where
    go : (b : Bool) → eqb k j ≡ b → get_or (set l j v) k 0 ≡ cond b v (get_or l k 0)
    go true q = rw (← eqb-true k j q) (get_or-set_same l k v 0 (omega arith))
    go false q = get_or-set_other l j k v 0 (eqb-false k j q)

-- a mark of a free column changed, and another one as it was
pub dropped-free : (column : List ℕ) (j : ℕ) → get_or column j 0 ≡ 1 → set column j 0 ≡ dropped column j
unfolding dropped
dropped-free column j h = rw (eq-eqb (get_or column j 0) 1 h)

pub dropped_other : (column : List ℕ) (j : ℕ) → (get_or column j 0 ≡ 1 → ⊥) → column ≡ dropped column j
unfolding dropped
dropped_other column j h = rw (ne_eqb (get_or column j 0) 1 h)

-- the closed rows, place by place
length-closed : (rs row : List ℕ) → length (closed rs row) ≡ length row
unfolding carry
length-closed [] row = refl
length-closed (r ∷ rs) row = length-closed rs (set row (r - 1) 0) ∙ length-set row (r - 1) 0

closed_at : (rs row : List ℕ) → Body rs → length row ≡ 64 → (i : ℕ) → i < 64 →
    get_or (closed rs row) i 0 ≡ cond (member (suc i) rs) 0 (get_or row i 0)
unfolding carry member
closed_at [] row h l i b = refl
closed_at (r ∷ rs) row h l i b =
    closed_at rs (set row (r - 1) 0) (λ n m. h (suc n) (omega arith)) (length-set row (r - 1) 0 ∙ l) i b
    ∙ rw (set_at row 64 (r - 1) 0 i l b, same) (go (eqb (suc i) r) (member (suc i) rs) (get_or row i 0))
  where
    same : eqb i (r - 1) ≡ eqb (suc i) r
    same = each (eqb (suc i) r) refl
      where
        each : (b : Bool) → eqb (suc i) r ≡ b → eqb i (r - 1) ≡ b
        each true e = eq-eqb i (r - 1) (omega (arith, eqb-true (suc i) r e))
        each false e = ne_eqb i (r - 1) (λ q. eqb-false (suc i) r e (omega (arith, (h 0 (omega arith)).0)))

    go : (e m : Bool) (x : ℕ) → cond m 0 (cond e 0 x) ≡ cond (e || m) 0 x
    go true true x = refl
    go true false x = refl
    go false m x = refl

-- a mark, where some test says that a free column goes out
gone : Bool → ℕ → ℕ
gone b x = cond (eqb x 1 && b) 0 x

gone_twice : (a b : Bool) (x : ℕ) → gone b (gone a x) ≡ gone (a || b) x
unfolding gone
gone_twice a b x = go a (eqb x 1) refl
  where
    go : (a c : Bool) → eqb x 1 ≡ c → gone b (cond (c && a) 0 x) ≡ cond (c && (a || b)) 0 x
    go true true e = refl
    go false true e = rw e
    go true false e = rw e
    go false false e = rw e

gone_not : (x : ℕ) → x ≡ gone false x
unfolding gone
gone_not x = go (eqb x 1)
  where
    go : (t : Bool) → x ≡ cond (t && false) 0 x
    go true = refl
    go false = refl

length-dropped : (column : List ℕ) (j : ℕ) → length (dropped column j) ≡ length column
unfolding dropped
length-dropped column j = go (eqb (get_or column j 0) 1)
  where
    go : (b : Bool) → length (cond b (set column j 0) column) ≡ length column
    go true = length-set column j 0
    go false = refl

dropped-at : (column : List ℕ) (j : ℕ) → length column ≡ 256 → (k : ℕ) → k < 256 → get_or (dropped column j) k 0 ≡ gone (eqb k j) (get_or column k 0)
unfolding dropped gone
dropped-at column j l k b = go (eqb (get_or column j 0) 1) refl (eqb k j) refl
  where
    go : (c : Bool) → eqb (get_or column j 0) 1 ≡ c → (d : Bool) → eqb k j ≡ d →
        get_or (cond c (set column j 0) column) k 0 ≡ cond (eqb (get_or column k 0) 1 && d) 0 (get_or column k 0)
    go true e true f = rw (set_at column 256 j 0 k l b, f, eqb-true k j f, e)
    go true e false f = rw (set_at column 256 j 0 k l b, f) (gone_not (get_or column k 0))
    go false e true f = rw (eqb-true k j f, e)
    go false e false f = gone_not (get_or column k 0)

length_all : (js column : List ℕ) → length (all_dropped js column) ≡ length column
unfolding carry
length_all [] column = refl
length_all (j ∷ js) column = length_all js (dropped column j) ∙ length-dropped column j

all_at : (js column : List ℕ) → length column ≡ 256 → (k : ℕ) → k < 256 → get_or (all_dropped js column) k 0 ≡ gone (member k js) (get_or column k 0)
unfolding carry member
all_at [] column l k b = gone_not (get_or column k 0)
all_at (j ∷ js) column l k b =
    all_at js (dropped column j) (length-dropped column j ∙ l) k b
    ∙ rw (dropped-at column j l k b) (gone_twice (eqb k j) (member k js) (get_or column k 0))

-- column k is in one of the rows of a body
module _ (p : Matrix) where
  unfoldable in_rows : List ℕ → ℕ → Bool
  in_rows [] k = false
  in_rows (r ∷ rs) k = covers p (r - 1) k || in_rows rs k

  length-rows : (rs column : List ℕ) → length (rows_dropped p rs column) ≡ length column
  unfolding carry
  length-rows [] column = refl
  length-rows (r ∷ rs) column = length-rows rs (all_dropped (row_columns p (r - 1)) column) ∙ length_all (row_columns p (r - 1)) column

  rows_at : (rs column : List ℕ) → length column ≡ 256 → (k : ℕ) → k < 256 →
      get_or (rows_dropped p rs column) k 0 ≡ gone (in_rows rs k) (get_or column k 0)
  unfolding carry in_rows
  rows_at [] column l k b = gone_not (get_or column k 0)
  rows_at (r ∷ rs) column l k b =
      let row : List ℕ = row_columns p (r - 1) in
      rows_at rs (all_dropped row column) (length_all row column ∙ l) k b
      ∙ rw (all_at row column l k b, row-covers p (r - 1) k) (gone_twice (covers p (r - 1) k) (in_rows rs k) (get_or column k 0))

  in_rows_lem : (rs : List ℕ) (r k : ℕ) → member r rs ≡ true → covers p (r - 1) k ≡ true → in_rows rs k ≡ true
  unfolding in_rows member
  in_rows_lem [] r k m h = absurd (false≢true m)
  in_rows_lem (x ∷ rs) r k m h =
      ⊎_elim (λ e. rw (← e, h)) (λ g. rw (in_rows_lem rs r k g h) (or-true (covers p (x - 1) k))) (member-cases r x rs m)

  rows_in_lem : (rs : List ℕ) (k : ℕ) → in_rows rs k ≡ true → (r : ℕ) × (member r rs ≡ true) × (covers p (r - 1) k ≡ true)
  unfolding in_rows
  rows_in_lem [] k h = absurd (false≢true h)
  rows_in_lem (x ∷ rs) k h = go (covers p (x - 1) k) refl h (rows_in_lem rs k)
    where
      go : (b : Bool) → covers p (x - 1) k ≡ b → (b || in_rows rs k) ≡ true →
          (in_rows rs k ≡ true → (r : ℕ) × (member r rs ≡ true) × (covers p (r - 1) k ≡ true)) →
          (r : ℕ) × (member r (x ∷ rs) ≡ true) × (covers p (r - 1) k ≡ true)
      go true e g f = (x, here x rs, e)
      go false e g f = let m = f g in (m.0, there m.0 x rs m.1, m.2)

  -- so the columns in the rows of a body are those that meet it
  rows_meet : Small p → (j k : ℕ) → j < width p → in_rows (body p j) k ≡ meets p j k
  unfolding covers
  rows_meet small j k l =
      same_bool (in_rows (body p j) k) (meets p j k)
      (λ h.
      let m = rows_in_lem (body p j) k h in
      let r : ℕ = m.0 in
      let n = small.numbered j r l m.1 in
      let e : suc (r - 1) ≡ r = omega (arith, n.0) in
      meets_of p (r - 1) j k (omega (arith, n.0, n.1)) (rw e m.1) m.2)
      (λ h.
      let m = meets_at p j k h in
      let e : suc m.0 - 1 ≡ m.0 = omega arith in
      in_rows_lem (body p j) (suc m.0) k m.2 (rw e m.3))

  -- the node with column j taken, whose body is rs, and b the bound from there on
  pub taken_is : Small p → (s : Node) (j b : ℕ) → j < width p → length s.column ≡ 256 → length s.row ≡ 64 →
      (rs : List ℕ) → rs ≡ body p j → (column row : List ℕ) → row ≡ closed rs s.row → column ≡ rows_dropped p rs s.column →
      record { cost = s.cost; column = set column j 2; row = row; bound = b } ≡ take p s j b
  unfolding take gone covers
  taken_is small s j v l cl rl rs is column row re ce =
      let n : length column ≡ 256 = ap length ce ∙ length-rows rs s.column ∙ cl in
      let f : ℕ → ℕ = λ k. cond (eqb k j) 2 (cond (is_free s k && meets p j k) 0 (mark s k)) in
      let g : ℕ → ℕ = λ i. cond (covers p i j) 0 (get_or s.row i 0) in
      let a : set column j 2 ≡ table 256 f =
      table_ext 256 f (set column j 2) (length-set column j 2 ∙ n)
      (λ k b. set_at column 256 j 2 k n b
      ∙ rw (ce, is, rows_at (body p j) s.column cl k b, rows_meet small j k l)) in
      let b : row ≡ table 64 g =
      table_ext 64 g row (ap length re ∙ length-closed rs s.row ∙ rl)
      (λ i b. rw (re, is) (closed_at (body p j) s.row (body-rows p small j l) rl i b)) in
      rw (a, b)

pub left_is : (s : Node) (j : ℕ) → length s.column ≡ 256 →
    record { cost = s.cost; column = set s.column j 0; row = s.row; bound = s.bound } ≡ leave s j
unfolding leave
left_is s j l =
    let f : ℕ → ℕ = λ k. cond (eqb k j) 0 (mark s k) in
    rw (table_ext 256 f (set s.column j 0) (length-set s.column j 0 ∙ l) (λ k b. set_at s.column 256 j 0 k l b))

-- what the steps of taking ask of the body rs
module _ (j : ℕ) (l : List ℕ) (t : HasColumn l j) (rs : List ℕ) (is : rs ≡ body (matrix_in l) j) where
  pub taken-body : Body rs
  taken-body = rw is (body-rows (matrix_in l) t.kept.small j t.column)

  pub taken-rows : HasBody l rs
  taken-rows = record { kept = t.kept; numbered = rw is (body_in_rows (matrix_in l) t.kept.small j t.column) }
