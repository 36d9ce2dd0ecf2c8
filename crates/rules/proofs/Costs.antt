-- The identity holds at the root, and taking, leaving and lowering keep it. Lowering a row moves an amount from the costs of its free
-- columns to the bound, and every completion has just one of these. So the identity holds for any set of open rows.
use mathlib.Core.Path.{◌≡◌, refl, sym}
use mathlib.Core.Bool.{Bool, true, false, not, ◌&&◌}
use mathlib.Core.List.{List}
use Prim.Native.Nat.{ℕ, ◌+◌, ◌-◌, ◌*◌, ◌≤◌, ◌<◌}
use native.Mathlib.Nat.{sub-zero, mul-le-mul_left}
use native.Mathlib.Omega.{arith}
use lib.ListN.{get_or}
use lib.Dec.{eqb}
use borrow.Author.Tests.{eqb-true}
use Rattle.node.specs.declared.Node.{Node}
use Rattle.node.specs.Lists.{on, total}
use Rattle.node.specs.Matrix.{Matrix, width, covers, price}
use Rattle.node.specs.Node.{is_free, is_taken, is_open, cost_at, root, take, leave}
use Rattle.node.specs.Stored.{matrix_in, Kept, FitsNode, Small}
use Rattle.rules.specs.Reduce.{lower}
use Rattle.rules.specs.Tree.{joined}
use Rattle.rules.specs.Identity.{Completion, rest, Identity}
use Rattle.node.proofs.Members.{at_table}
use Rattle.rules.proofs.Sums.{total_cong, total-add, total_add_le, total_le, total_mul, on_one, total-ones, total-one, total-at}
use Rattle.rules.proofs.Plans.{Open, Free, FreeIn, Sound, some-row, rest-row, not_both, root_sound, root-free, root-cost, comp_same}
use Rattle.rules.proofs.Plans.{sound_same}
use Rattle.rules.proofs.Decide.{Decided, stays, goes, joins, gained, undo, still_free}
use Rattle.rules.proofs.Steps.{open_take, take_decides, take_gains, take_sound, leave_decides, leave_gains, leave-rest, leave_sound}

-- what holds of every node of the sum search
pub record Good (p : Matrix) (cs : List ℕ) (s : Node) : Type 0 where
  pub sound : Sound p s
  pub identity : Identity p cs s

-- Each row has a height, which no free column of the row costs more than; the bound and the heights of the open rows never pass what they
-- are at the root. Lowering a row moves an amount from its height to the bound, and a column taken costs no more than the height of a row
-- that it closes.
pub record Fair (p : Matrix) (top : ℕ) (s : Node) : Type 0 where
  pub sound : Sound p s
  pub height : ℕ → ℕ
  pub high : (i k : ℕ) → i < p.rows → FreeIn p s i k → cost_at s k ≤ height i
  pub level : (i : ℕ) → height i ≤ top
  pub within : s.bound + total p.rows (λ i. on (is_open s i) (height i)) ≤ 64 * top

-- what a column costs at most: 1,000,000, and for SPP2 1,000,000 for each of at most 64 rows besides (02, P10); 64 rows of that height are
-- 4,160,000,000
abbrev pub cost_limit : ℕ
cost_limit = 65000000

-- what the code's steps ask of the list of a matrix and a node of it; no sum then reaches 2^32
pub record Workable (l : List ℕ) (s : Node) : Type 0 where
  pub kept : Kept l
  pub fair : Fair (matrix_in l) cost_limit s

-- the bound and the cost of a free column
module _ (p : Matrix) (small : Small p) (top : ℕ) (s : Node) (g : Fair p top s) where
  fair_row : (j : ℕ) → Free p s j → (i : ℕ) × (i < p.rows) × (covers p i j ≡ true) × (is_open s i ≡ true) × (cost_at s j ≤ g.height i)
  fair_row j f =
      let r = some-row p small j f.col in
      let h : FreeIn p s r.0 j = record { free = f; covering = r.2 } in
      (r.0, r.1, r.2, g.sound.open_free r.0 j r.1 h, g.high r.0 j r.1 h)

  pub fair_cost : (j : ℕ) → Free p s j → cost_at s j ≤ top
  fair_cost j f = let r = fair_row j f in omega (arith, r.4, g.level r.0)

  pub fair_room : (j : ℕ) → Free p s j → s.bound + cost_at s j ≤ 64 * top
  fair_room j f =
      let r = fair_row j f in
      omega (
        arith,
        g.within,
        r.4,
        rw r.3 at (total-one p.rows r.0 (λ i. on (is_open s i) (g.height i)) r.1),
      )

pub root_good : (p : Matrix) (cs : List ℕ) → FitsNode p → Good p cs (root p cs)
unfolding root price
root_good p cs F =
    let c : ℕ → ℕ = λ k. get_or cs k 0 in
    let free : (k : ℕ) → k < width p → is_free (root p cs) k ≡ true = root-free p F cs in
    record {
      sound = root_sound p F cs;
      identity = λ X h. omega (
        arith,
        total_cong (width p) (λ k. on (X k) (c k)) (λ k. on (is_free (root p cs) k && X k) (cost_at (root p cs) k))
            (λ k m. rw (free k m, root-cost p F cs k m)),
      );
    }

pub root_fair : (p : Matrix) (cs : List ℕ) → FitsNode p → (top : ℕ) → ((k : ℕ) → k < width p → get_or cs k 0 ≤ top) → Fair p top (root p cs)
unfolding root
root_fair p cs F top h = record {
  sound = root_sound p F cs;
  height = λ i. top;
  high = λ i k l f. rw (root-cost p F cs k f.free.col) (h k f.free.col);
  level = λ i. omega arith;
  within = omega (
    arith,
    total_mul p.rows top (λ i. on (is_open (root p cs) i) top) (λ i. on (is_open (root p cs) i) 1) (λ i l. on_times (is_open (root p cs) i)),
    mul-le-mul_left top few,
  );
}
  where
    on_times : (b : Bool) → on b top ≡ top * on b 1
    on_times true = omega arith
    on_times false = omega arith

    few : total p.rows (λ i. on (is_open (root p cs) i) 1) ≤ 64
    few = omega (
      arith,
      F.tall,
      total_le p.rows (λ i. on (is_open (root p cs) i) 1) (λ i. 1) (λ i l. on_one (is_open (root p cs) i)),
      total-ones p.rows (λ i. 1) (λ i l. refl),
    )

module _ (p : Matrix) (s t : Node) (d : (k : ℕ) → k < width p → Decided s t k) where
  -- a sum over the free columns of a completion
  rest-parts : (X : ℕ → Bool) → Completion p t X → (f : ℕ → ℕ) → rest p s X f ≡ gained p s t f + rest p t X f
  rest-parts X c f =
      total-add (width p) (λ k. on (is_free s k && X k) (f k)) (λ k. on (is_free s k && is_taken t k) (f k))
      (λ k. on (is_free t k && X k) (f k)) (λ k l. go k l (d k l))
    where
      go : (k : ℕ) → k < width p → Decided s t k
          → on (is_free s k && X k) (f k) ≡ on (is_free s k && is_taken t k) (f k) + on (is_free t k && X k) (f k)
      go k l (stays e) = rw (e, not_both s k) (omega arith)
      go k l (goes q e) = rw (c.agrees k l (rw e), e, q)
      go k l (joins q e) = rw (c.agrees k l (rw e), e, q) (omega arith)

  -- t is good, if the costs of what joins go to the bound
  decided_good : {cs : List ℕ} → Good p cs s → Sound p t → t.cost ≡ s.cost → t.bound ≡ s.bound + gained p s t (cost_at s) → Good p cs t
  decided_good g o c b = record {
    sound = o;
    identity = λ X h. rw c (omega (arith, b, g.identity X (undo p s t d X h), rest-parts X h (cost_at s)));
  }

module _ (p : Matrix) (F : FitsNode p) (s : Node) (j : ℕ) (f : Free p s j) where
  take_rest : (b : ℕ) → ((take p s j b).cost ≡ s.cost) × ((take p s j b).bound ≡ b)
  unfolding take
  take_rest b = (refl, refl)

  pub take_good : {cs : List ℕ} → Good p cs s → Good p cs (take p s j (joined s j))
  take_good g =
      let b : ℕ = joined s j in
      decided_good p s (take p s j b) (take_decides p F s j f b) g (take_sound p F s j f b g.sound) (take_rest b).0
      (omega (arith, (take_rest b).1, take_gains p F s j f b (cost_at s)))

  -- a column that is taken closes a row whose height is its cost at least
  pub take_fair : Small p → {top : ℕ} → Fair p top s → Fair p top (take p s j (joined s j))
  take_fair small {top} g =
      let b : ℕ = joined s j in
      let t : Node = take p s j b in
      let r = fair_row p small top s g j f in
      record {
        sound = take_sound p F s j f b g.sound;
        height = g.height;
        high = λ i k l h. rw (take_rest b).0 (g.high i k l (record { free = still_free p s t (take_decides p F s j f b) k h.free; covering = h.covering }));
        level = g.level;
        within = omega (
          arith,
          (take_rest b).1,
          g.within,
          r.4,
          total-at p.rows r.0 g.height r.1,
          total_add_le p.rows (λ i. on (eqb i r.0) (g.height i)) (λ i. on (is_open t i) (g.height i)) (λ i. on (is_open s i) (g.height i))
              (λ i l. rw (open_take p F s j b i l) (closes r.0 g.height i (eqb i r.0) refl r.2 r.3)),
        );
      }
    where
      closes : (i₀ : ℕ) (v : ℕ → ℕ) (i : ℕ) (e : Bool) → eqb i i₀ ≡ e → covers p i₀ j ≡ true → is_open s i₀ ≡ true →
          on e (v i) + on (not (covers p i j) && is_open s i) (v i) ≤ on (is_open s i) (v i)
      closes i₀ v i true e c o = rw (eqb-true i i₀ e, c, o) (omega arith)
      closes i₀ v i false e c o = go (covers p i j) (is_open s i)
        where
          go : (a b : Bool) → 0 + on (not a && b) (v i) ≤ on b (v i)
          go true b = omega arith
          go false b = omega arith

  pub leave_fair : {top : ℕ} → Fair p top s → Fair p top (leave s j)
  leave_fair g =
      let r = leave-rest p F s j f in
      record {
        sound = leave_sound p F s j f g.sound;
        height = g.height;
        high = λ i k l h. rw r.0 (g.high i k l (record { free = still_free p s (leave s j) (leave_decides p F s j f) k h.free; covering = h.covering }));
        level = g.level;
        within = rw (r.1, r.2) g.within;
      }

  pub leave_good : {cs : List ℕ} → Good p cs s → Good p cs (leave s j)
  leave_good g =
      let r = leave-rest p F s j f in
      decided_good p s (leave s j) (leave_decides p F s j f) g (leave_sound p F s j f g.sound) r.0
      (omega (arith, r.1, leave_gains p F s j f (cost_at s)))

lower_at_lem : (f x v : Bool) (c a : ℕ) → (f ≡ true → v ≡ true → a ≤ c)
    → on (f && x) c ≡ on (f && x) (on v a) + on (f && x) (c - on (f && v) a)
lower_at_lem true true true c a h = omega (arith, h refl refl)
lower_at_lem true true false c a h = omega arith
lower_at_lem true false v c a h = refl
lower_at_lem false x v c a h = refl

-- an amount not above the present costs of the free columns of an open row
module _ (p : Matrix) (F : FitsNode p) (s : Node) (i a : ℕ) where
  pub cost-lower : (k : ℕ) → k < width p → cost_at (lower p s i a) k ≡ cost_at s k - on (is_free s k && covers p i k) a
  unfolding lower
  cost-lower k l = at_table 256 (λ k. cost_at s k - on (is_free s k && covers p i k) a) k (omega (arith, F.wide))

  lower-marks : ((lower p s i a).column ≡ s.column) × ((lower p s i a).row ≡ s.row) × ((lower p s i a).bound ≡ s.bound + a)
  unfolding lower
  lower-marks = (refl, refl, refl)

  -- the amount leaves the height of the row
  pub lower_fair : {top : ℕ} → Fair p top s → Open p s i → (j : ℕ) → FreeIn p s i j → ((k : ℕ) → FreeIn p s i k → a ≤ cost_at s k) →
      Fair p top (lower p s i a)
  lower_fair {top} g o j f fits = record {
    sound = sound_same p s (lower p s i a) lower-marks.0 lower-marks.1 g.sound;
    height = λ h. g.height h - on (eqb h i) a;
    high = λ h k l q. rw (cost-lower k q.free.col) (falls h k l (before h k q) (eqb h i) refl);
    level = λ h. omega (arith, g.level h);
    within = omega (
      arith,
      lower-marks.2,
      g.within,
      fits j f,
      g.high i j o.row f,
      total-at p.rows i (λ h. a) o.row,
      total-add p.rows (λ h. on (is_open s h) (g.height h)) (λ h. on (eqb h i) a)
          (λ h. on (is_open (lower p s i a) h) (g.height h - on (eqb h i) a)) (λ h l. rw lower-marks.1 (parts h (eqb h i) refl)),
    );
  }
    where
      before : (h k : ℕ) → FreeIn p (lower p s i a) h k → FreeIn p s h k
      before h k q = record { free = record { col = q.free.col; is_free_true = rw lower-marks.0 at q.free.is_free_true }; covering = q.covering }

      falls : (h k : ℕ) → h < p.rows → FreeIn p s h k → (e : Bool) → eqb h i ≡ e
          → cost_at s k - on (is_free s k && covers p i k) a ≤ g.height h - on e a
      falls h k l q true e =
          let z : h ≡ i = eqb-true h i e in
          let c : covers p i k ≡ true = rw z at q.covering in
          rw (q.free.is_free_true, c) (omega (arith, g.high h k l q))
      falls h k l q false e = omega (arith, g.high h k l q)

      parts : (h : ℕ) (e : Bool) → eqb h i ≡ e → on (is_open s h) (g.height h) ≡ on e a + on (is_open s h) (g.height h - on e a)
      parts h true e =
          let z : h ≡ i = eqb-true h i e in
          rw (z, o.is_open_true) (omega (arith, fits j f, g.high i j o.row f))
      parts h false e = rw sub-zero (omega arith)

  -- row i is open and has a free column j
  module _ {cs : List ℕ} (g : Good p cs s) (o : Open p s i) (j : ℕ) (f : FreeIn p s i j) (fits : (k : ℕ) → FreeIn p s i k → a ≤ cost_at s k) where
    -- a completion has one free column of the row, so the amount leaves its costs once
    lower-parts : (X : ℕ → Bool) → Completion p s X → rest p s X (cost_at s) ≡ a + rest p s X (cost_at (lower p s i a))
    lower-parts X c =
        let part : (ℕ → ℕ) → ℕ → ℕ = λ v k. on (is_free s k && X k) (v k) in
        omega (
          arith,
          rest-row p s g.sound X c i o a,
          total-add (width p) (part (cost_at s)) (part (λ k. on (covers p i k) a)) (part (cost_at (lower p s i a)))
              (λ k l. rw (cost-lower k l) (lower_at_lem (is_free s k) (X k) (covers p i k) (cost_at s k) a
              (λ b c. fits k (record { free = record { col = l; is_free_true = b }; covering = c })))),
        )

    pub lower_good : Good p cs (lower p s i a)
    lower_good = record {
      sound = sound_same p s (lower p s i a) lower-marks.0 lower-marks.1 g.sound;
      identity = λ X c.
          let d : Completion p s X = comp_same p (lower p s i a) s (sym lower-marks.0) X c in
          rw lower-marks.0 (omega (arith, lower-marks.2, g.identity X d, lower-parts X d));
    }
