-- The loop: reducing from the present node, with the rows used so far, gives what reducing from the first node gives. A candidate used is
-- a candidate no more, so the rows used have room.
use mathlib.Core.Path.{◌≡◌, refl, ap, sym, subst, ◌∙◌}
use mathlib.Core.List.{List, [], ◌∷◌, ◌++◌, map, map-append}
use Prim.Native.Nat.{ℕ, suc, ◌+◌, ◌≤◌, ◌<◌}
use native.Mathlib.Numerals.{add-one}
use native.Mathlib.Omega.{arith}
use lib.ListN.{length, set, take, length-set, length-append}
use lib.Seq.{take-suc-set}
use Rattle.node.specs.declared.Node.{Node}
use Rattle.rules.specs.declared.Candidate.{Candidate}
use Rattle.node.specs.Passes.{best_in}
use Rattle.node.specs.Matrix.{Matrix}
use Rattle.node.specs.Node.{cost_at, free_columns, free_of, open_rows}
use Rattle.rules.specs.Reduce.{least_of, candidates, candidate, precedes, row_first, Reduced}
use Rattle.rules.specs.Reduce as rules
use Rattle.node.proofs.Members.{least_le}
use Rattle.rules.proofs.Plans.{FreeIn}
use Rattle.rules.proofs.Rows.{in_free}
use Rattle.rules.proofs.Costs.{Fair, Workable, cost_limit}
use Rattle.rules.proofs.Reducing.{pending, pending_fits, used_next, reduce_from, lower-least, fair_lowers, reduce-none, reduce-some}
use Rattle.node.specs.Stored.{matrix_in, FitsNode}
use Rattle.node.specs.View.{view}
use Rattle.candidates.specs.Best.{none, best_of, Chooses}
use Rattle.candidates.proofs.Closing.{lowered-same}
use Rattle.lowering.specs.Lower.{Lowerable}
use Rattle.lowering.specs.Done.{Done}
use Rattle.lowering.proofs.Lowered.{lower-wide, lower-node}

-- a table of rows with the candidates of a node, whatever its bound
abbrev Leaves : Matrix → Node → List ℕ → Type 0
Leaves p s left = candidates p (view s.cost s.column left) ≡ candidates p s

all_left : (p : Matrix) (s : Node) → Leaves p s s.row
unfolding candidates least_of free_of free_columns open_rows
all_left p s = refl

-- it has the best candidate too
best-left : (p : Matrix) (s : Node) (left : List ℕ) → Leaves p s left → best_of p (view s.cost s.column left) ≡ best_of p s
unfolding candidate row_first least_of free_of free_columns
best-left p s left e = ap (best_in (candidate p s) (row_first precedes p s) none) e

-- and the candidates of the node lowered
lower-left : (p : Matrix) → FitsNode p → (s : Node) (i a : ℕ) (left : List ℕ) → Leaves p s left → Leaves p (rules.lower p s i a) left
unfolding rules.lower candidates least_of free_of free_columns open_rows
lower-left p F s i a left e =
    lowered-same p s.cost (rules.lower p s i a).cost s.column (lower-least p F s i a) s.row left e

module _ (p : Matrix) (F : FitsNode p) (s : Node) where
  -- the best candidate is the row picked
  record Picked (best : Candidate) : Type 0 where
    first : ℕ
    rest : List ℕ
    listed : candidates p s ≡ first ∷ rest
    row_is : best.row ≡ used_next precedes p s first rest
    cost_is : best.cost ≡ least_of p s (used_next precedes p s first rest)

  best_cons : (i : ℕ) (is : List ℕ) → candidates p s ≡ i ∷ is → best_of p s ≡ candidate p s (used_next precedes p s i is)
  unfolding best_in
  best_cons i is e = rw e

  best_nil : candidates p s ≡ [] → best_of p s ≡ none
  unfolding best_in
  best_nil e = rw e

  picked : (best : Candidate) → best ≡ best_of p s → (best.cost ≡ 0 → ⊥) → Picked best
  unfolding candidate
  picked best e n = go (candidates p s) refl
    where
      go : (xs : List ℕ) → candidates p s ≡ xs → Picked best
      go [] q = absurd (n (ap (λ (c : Candidate). c.cost) (e ∙ best_nil q)))
      go (i ∷ is) q =
          let c = e ∙ best_cons i is q in
          record {
            first = i;
            rest = is;
            listed = q;
            row_is = ap (λ (c : Candidate). c.row) c;
            cost_is = ap (λ (c : Candidate). c.cost) c;
          }

  nothing_left : (best : Candidate) → best ≡ best_of p s → best.cost ≡ 0 → candidates p s ≡ []
  unfolding candidate
  nothing_left best e z = go (candidates p s) refl
    where
      go : (xs : List ℕ) → candidates p s ≡ xs → candidates p s ≡ []
      go [] q = q
      go (i ∷ is) q =
          let b : ℕ = used_next precedes p s i is in
          let c : best.cost ≡ least_of p s b = ap (λ (c : Candidate). c.cost) (e ∙ best_cons i is q) in
          absurd (omega (arith, (reduce-some precedes p F (Fair p cost_limit) (fair_lowers p F cost_limit) s [] i is q).above))

-- row i of a node lowered by a
record Step (p : Matrix) (now : Node) (i a : ℕ) : Type 0 where
  row : i < p.rows
  covered : (j : ℕ) → FreeIn p now i j → a ≤ cost_at now j
  falls : pending p (rules.lower p now i a) < pending p now
  fair : Fair p cost_limit now → Fair p cost_limit (rules.lower p now i a)
  left : (us : List ℕ) → reduce_from precedes p now us ≡ reduce_from precedes p (rules.lower p now i a) (us ++ (i ∷ []))

step_picked : (p : Matrix) → FitsNode p → (now : Node) (i : ℕ) (is : List ℕ) → candidates p now ≡ i ∷ is →
    let b : ℕ = used_next precedes p now i is in Step p now b (least_of p now b)
unfolding least_of
step_picked p F now i is e =
    let b : ℕ = used_next precedes p now i is in
    let some = reduce-some precedes p F (Fair p cost_limit) (fair_lowers p F cost_limit) now in
    let t = some [] i is e in
    record {
      row = t.row_open.row;
      covered = λ j f. least_le (cost_at now) (free_of p now b) j (in_free p now b j f);
      falls = t.falls;
      fair = t.good;
      left = λ us. (some us i is e).left;
    }

step-best : (p : Matrix) (F : FitsNode p) (now : Node) (best : Candidate) → Picked p F now best → Step p now best.row best.cost
step-best p F now best q = go best.row best.cost q.row_is q.cost_is
  where
    b : ℕ
    b = used_next precedes p now q.first q.rest

    go : (i a : ℕ) → i ≡ b → a ≡ least_of p now b → Step p now i a
    go i a e f = rw (e, f) (step_picked p F now q.first q.rest q.listed)

bound-is : (p : Matrix) (now : Node) (i a : ℕ) → (rules.lower p now i a).bound ≡ now.bound + a
unfolding rules.lower
bound-is p now i a = refl

-- one more row used
used-more : (used : List ℕ) (count : ℕ) (rows : List ℕ) (row : ℕ) → take count used ≡ map suc rows → count < length used →
    take (count + 1) (set used count (row + 1)) ≡ map suc (rows ++ (row ∷ []))
used-more used count rows row e l =
    rw (add-one count, add-one row) (take-suc-set used count (suc row) l ∙ rw e (sym (map-append suc rows (row ∷ []))))

-- where the loop stands
pub record Reducing (l : List ℕ) (s now : Node) (left used : List ℕ) (count : ℕ) (best : Candidate) : Type 0 where
  pub some : Workable l now
  pub long : length used ≡ 64
  pub wide : length now.cost ≡ 256
  pub marks : now.column ≡ s.column
  pub rows : List ℕ
  pub used_is : take count used ≡ map suc rows
  pub count_is : count ≡ length rows
  pub room : count + pending (matrix_in l) now ≤ (matrix_in l).rows
  pub goes_on : reduce_from precedes (matrix_in l) now rows ≡ rules.reduce (matrix_in l) s
  pub leaves : Leaves (matrix_in l) now left
  pub best_is : best ≡ best_of (matrix_in l) now

pub reducing_start : (l : List ℕ) (s : Node) (left used : List ℕ) (best : Candidate) → Workable l s → length used ≡ 64 →
    length s.cost ≡ 256 → Chooses (matrix_in l) s.cost s.column s.row left best → Reducing l s s left used 0 best
unfolding rules.reduce_with
reducing_start l s left used best k u c b = record {
  some = k;
  long = u;
  wide = c;
  marks = refl;
  rows = [];
  used_is = refl;
  count_is = refl;
  room = omega (arith, pending_fits (matrix_in l) s);
  goes_on = refl;
  leaves = b.same ∙ all_left (matrix_in l) s;
  best_is = b.best_is ∙ best-left (matrix_in l) s s.row (all_left (matrix_in l) s);
}

module _ (l : List ℕ) (s now : Node) (left used : List ℕ) (count : ℕ) (best : Candidate) (w : Reducing l s now left used count best) where
  module _ (n : best.cost ≡ 0 → ⊥) where
    step : Step (matrix_in l) now best.row best.cost
    step =
        let F = w.some.kept.small.fits in
        step-best (matrix_in l) F now best (picked (matrix_in l) F now best w.best_is n)

    pub reducing-lower : Lowerable now.cost s.column l best.row best.cost
    reducing-lower = record {
      has = record { kept = w.some.kept; row = step.row };
      covered = λ j f.
          step.covered j (record { free = record { col = f.free.col; is_free_true = rw w.marks f.free.is_free_true }; covering = f.covering });
      wide = w.wide;
    }

    pub reducing-fits : now.bound + best.cost < 4294967296
    reducing-fits = omega (arith, (step.fair w.some.fair).within, bound-is (matrix_in l) now best.row best.cost)

    pub reducing-room : (best.row < 64) × (count < 64)
    reducing-room =
        let f = w.some.kept.small.fits.tall in
        let r = w.room in
        (omega (arith, step.row), omega (arith, step.falls))

    module _ (out : List ℕ) (told : out ≡ (rules.lower (matrix_in l) (view now.cost s.column []) best.row best.cost).cost) where
      next : Node
      next = record { cost = out; column = now.column; row = now.row; bound = now.bound + best.cost }

      next_is : next ≡ rules.lower (matrix_in l) now best.row best.cost
      unfolding next
      next_is = lower-node (matrix_in l) now s.column best.row best.cost w.marks out told

      pub reducing_next : (left' : List ℕ) (best' : Candidate) → Chooses (matrix_in l) out now.column left left' best' →
          Reducing l s (record { cost = out; column = now.column; row = now.row; bound = now.bound + best.cost }) left'
          (set used count (best.row + 1)) (count + 1) best'
      unfolding next
      reducing_next left' best' b =
          let leaves : Leaves (matrix_in l) next left =
          subst (λ (x : Node). Leaves (matrix_in l) x left) (sym next_is)
          (lower-left (matrix_in l) w.some.kept.small.fits now best.row best.cost left w.leaves) in
          record {
            some = record { kept = w.some.kept; fair = rw next_is (step.fair w.some.fair) };
            long = length-set used count (best.row + 1) ∙ w.long;
            wide = rw told (lower-wide (matrix_in l) (view now.cost s.column []) best.row best.cost);
            marks = w.marks;
            rows = w.rows ++ (best.row ∷ []);
            used_is = used-more used count w.rows best.row w.used_is (omega (arith, w.long, reducing-room.1));
            count_is = omega (arith, w.count_is, length-append w.rows (best.row ∷ []));
            room = rw next_is (omega (arith, w.room, step.falls));
            goes_on = rw next_is (sym (step.left w.rows) ∙ w.goes_on);
            leaves = b.same ∙ leaves;
            best_is = b.best_is ∙ best-left (matrix_in l) next left leaves;
          }

  pub reducing-end : best.cost ≡ 0 → Done (matrix_in l) s (record { node = now; used = used; count = count })
  reducing-end z =
      let p : Matrix = matrix_in l in
      let F = w.some.kept.small.fits in
      let none_left : candidates p now ≡ [] = nothing_left p F now best w.best_is z in
      let d : rules.reduce p s ≡ record { node = now; used = w.rows } =
      sym w.goes_on ∙ reduce-none precedes p F (Fair p cost_limit) (fair_lowers p F cost_limit) now w.rows none_left in
      record {
        node_is = sym (ap (λ (x : Reduced). x.node) d);
        used_is = w.used_is ∙ ap (λ (x : Reduced). map suc x.used) (sym d);
        count_is = w.count_is ∙ ap (λ (x : Reduced). length x.used) (sym d);
      }
