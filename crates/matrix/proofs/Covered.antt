-- The table of marks: a column's body marks its own rows and no other place, so column after column the table says which row is covered
-- by which column.
use mathlib.Core.Path.{◌≡◌, refl, ap, sym, ◌∙◌}
use mathlib.Core.Bool.{Bool, true, false, cond, ◌&&◌, ◌||◌}
use mathlib.Core.List.{List, [], ◌∷◌}
use Prim.Native.Nat.{ℕ, zero, suc, ◌+◌, ◌-◌, ◌≤◌, ◌<◌}
use native.Mathlib.Omega.{arith}
use lib.ListN.{length, get_or, set, drop, replicate, get_or-replicate, length-replicate, length-set, drop_of_length-le}
use lib.Seq.{get_or-set_same, get_or-set_other}
use lib.Dec.{eqb}
use native.Mathlib.Nat.{add-zero, zero-add}
use borrow.Author.Tests.{eqb-true, eqb-false, eq-eqb, ne_eqb}
use Rattle.node.proofs.Loops.{drop-step}
use Rattle.node.specs.Lists.{member, upto}
use Rattle.node.specs.Matrix.{Matrix, width, body, covers}
use Rattle.node.proofs.Members.{keep_cong, upto_lt}
use Rattle.node.specs.Stored.{Body, row_columns}
use Rattle.matrix.specs.Build.{place, marked, all_marked, marked_in, marks_of}

-- at row number k of a body
pub record Marking (j : ℕ) (rs cover₀ cover : List ℕ) (k : ℕ) : Type 0 where
  pub column : j < 256
  pub rows : Body rs
  pub left : marked j (drop k rs) cover ≡ marked j rs cover₀

module _ (j : ℕ) (rs cover₀ cover : List ℕ) (k : ℕ) (w : Marking j rs cover₀ cover k) where
  pub marking_next : k < length rs → Marking j rs cover₀ (set cover (place (get_or rs k 0 - 1) j) 1) (k + 1)
  unfolding marked
  marking_next l = record {
    column = w.column;
    rows = w.rows;
    left = sym (ap (λ (l : List ℕ). marked j l cover) (drop-step rs k l)) ∙ w.left;
  }

  pub marking_end : length rs ≤ k → cover ≡ marked j rs cover₀
  unfolding marked
  marking_end l = sym (ap (λ (l : List ℕ). marked j l cover) (drop_of_length-le rs l)) ∙ w.left

-- a place of the marked table
set-place : (cover : List ℕ) (r j i k : ℕ) → (1 ≤ r) × (r ≤ 64) → j < 256 → i < 64 → k < 256 → length cover ≡ 16384 →
    get_or (set cover (place (r - 1) j) 1) (place i k) 0 ≡ cond (eqb k j && eqb (suc i) r) 1 (get_or cover (place i k) 0)
set-place cover r j i k h a b c l = go (eqb k j) (eqb (suc i) r) refl refl
  where
    go : (d e : Bool) → eqb k j ≡ d → eqb (suc i) r ≡ e →
        get_or (set cover (place (r - 1) j) 1) (place i k) 0 ≡ cond (d && e) 1 (get_or cover (place i k) 0)
    go true true d e =
        let q : place i k ≡ place (r - 1) j = omega (arith, eqb-true k j d, eqb-true (suc i) r e) in
        rw q (get_or-set_same cover (place (r - 1) j) 1 0 (omega (arith, h.0, h.1)))
    go true false d e =
        let n : place i k ≡ place (r - 1) j → ⊥ = λ q. eqb-false (suc i) r e (omega (arith, h.0)) in
        get_or-set_other cover (place (r - 1) j) (place i k) 1 0 n
    go false e d f =
        let n : place i k ≡ place (r - 1) j → ⊥ = λ q. eqb-false k j d (omega (arith, h.0)) in
        get_or-set_other cover (place (r - 1) j) (place i k) 1 0 n

marked-at : (j : ℕ) (rs cover : List ℕ) → j < 256 → Body rs → length cover ≡ 16384 → (i k : ℕ) → i < 64 → k < 256 →
    get_or (marked j rs cover) (place i k) 0 ≡ cond (eqb k j && member (suc i) rs) 1 (get_or cover (place i k) 0)
unfolding marked member
marked-at j [] cover a h l i k b c = go (eqb k j)
  where
    go : (d : Bool) → get_or cover (place i k) 0 ≡ cond (d && false) 1 (get_or cover (place i k) 0)
    go true = refl
    go false = refl
marked-at j (r ∷ rs) cover a h l i k b c =
    marked-at j rs (set cover (place (r - 1) j) 1) a (λ n m. h (suc n) (omega arith)) (length-set cover (place (r - 1) j) 1 ∙ l) i k b c
    ∙ rw (set-place cover r j i k (h 0 (omega arith)) a b c l) (go (eqb k j) (eqb (suc i) r) (member (suc i) rs) (get_or cover (place i k) 0))
  where
    go : (d e m : Bool) (x : ℕ) → cond (d && m) 1 (cond (d && e) 1 x) ≡ cond (d && (e || m)) 1 x
    go true true true x = refl
    go true true false x = refl
    go true false m x = refl
    go false e m x = refl

length_marked : (j : ℕ) (rs cover : List ℕ) → length (marked j rs cover) ≡ length cover
unfolding marked
length_marked j [] cover = refl
length_marked j (r ∷ rs) cover = length_marked j rs (set cover (place (r - 1) j) 1) ∙ length-set cover (place (r - 1) j) 1

-- bodies with row numbers of the table
abbrev pub Bodies : List (List ℕ) → Type 0
Bodies bs = (k : ℕ) → k < length bs → Body (get_or bs k [])

-- a place of a table that the columns from j on are marked in: before column j, and in one of them
module _ (i : ℕ) (b : i < 64) where
  marked-before : (bs : List (List ℕ)) (j : ℕ) (cover : List ℕ) → Bodies bs → j + length bs ≤ 256 → length cover ≡ 16384 →
      (k : ℕ) → k < j → get_or (all_marked j bs cover) (place i k) 0 ≡ get_or cover (place i k) 0
  unfolding all_marked
  marked-before [] j cover h w l k m = refl
  marked-before (rs ∷ bs) j cover h w l k m =
      marked-before bs (suc j) (marked j rs cover) (λ n q. h (suc n) (omega arith)) (omega arith) (length_marked j rs cover ∙ l) k (omega arith)
      ∙ marked-at j rs cover (omega arith) (h 0 (omega arith)) l i k b (omega arith)
      ∙ rw (ne_eqb k j (λ e. omega arith))

  all_marked_at : (bs : List (List ℕ)) (j : ℕ) (cover : List ℕ) → Bodies bs → j + length bs ≤ 256 → length cover ≡ 16384 →
      (k : ℕ) → k < length bs →
      get_or (all_marked j bs cover) (place i (j + k)) 0 ≡ cond (member (suc i) (get_or bs k [])) 1 (get_or cover (place i (j + k)) 0)
  unfolding all_marked
  all_marked_at [] j cover h w l k m = absurd (omega arith)
  all_marked_at (rs ∷ bs) j cover h w l zero m =
      marked-before bs (suc j) (marked j rs cover) (λ n q. h (suc n) (omega arith)) (omega arith) (length_marked j rs cover ∙ l) (j + 0) (omega arith)
      ∙ marked-at j rs cover (omega arith) (h 0 (omega arith)) l i (j + 0) b (omega arith)
      ∙ rw (eq-eqb (j + 0) j (add-zero j))
  all_marked_at (rs ∷ bs) j cover h w l (suc k) m =
      let e : j + suc k ≡ suc j + k = omega arith in
      rw e (all_marked_at bs (suc j) (marked j rs cover) (λ n q. h (suc n) (omega arith)) (omega arith) (length_marked j rs cover ∙ l) k (omega arith)
      ∙ rw (marked-at j rs cover (omega arith) (h 0 (omega arith)) l i (suc j + k) b (omega arith), ne_eqb (suc j + k) j (λ e. omega arith)))

-- the table of a matrix has the columns of each row
pub marks-row : (p : Matrix) (cover : List ℕ) → width p ≤ 256 → Bodies p.bodies → cover ≡ all_marked 0 p.bodies (replicate 16384 0) →
    (i : ℕ) → i < 64 → marks_of cover (width p) i ≡ row_columns p i
unfolding covers
marks-row p cover w h e i b = keep_cong (marked_in cover i) (covers p i) (upto (width p)) (λ j m. each j (upto_lt (width p) j m))
  where
    each : (j : ℕ) → j < width p → marked_in cover i j ≡ covers p i j
    each j l =
        let z : ◌≡◌ {A = ℕ} (get_or (replicate 16384 0) (place i j) 0) 0 = get_or-replicate 16384 (place i j) 0 0 (omega arith) in
        let q : get_or cover (place i j) 0 ≡ cond (member (suc i) (body p j)) 1 0 =
        rw e (rw (zero-add j) at (all_marked_at i b p.bodies 0 (replicate 16384 0) h (omega arith) (length-replicate {A = ℕ} 16384 0) j l) ∙ rw z) in
        rw q (go (member (suc i) (body p j)))
      where
        go : (t : Bool) → eqb (cond t 1 0) 1 ≡ t
        go true = refl
        go false = refl
