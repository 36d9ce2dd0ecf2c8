-- The bound of the search for the least largest cost is P1's floor: it never falls along a path, since a row that closes is covered by a
-- column that costs its least cost or more.
use mathlib.Core.Path.{◌≡◌, refl, sym, ap, ◌∙◌}
use mathlib.Core.Bool.{Bool, true, false, cond, false≢true, true≢false}
use mathlib.Core.List.{List, [], ◌∷◌}
use mathlib.Core.Logic.{◌⊎◌, inl, inr, ⊎_elim}
use Prim.Native.Nat.{ℕ, ◌≤◌, ◌<◌, max}
use native.Mathlib.Omega.{arith}
use lib.ListN.{length, get_or}
use lib.Dec.{leb, eqb}
use borrow.Author.Tests.{leb-true, leb-false, eqb-true, eqb-false}
use Rattle.node.specs.declared.Node.{Node}
use Rattle.node.specs.Lists.{on, least, member, is_empty}
use Rattle.node.specs.Matrix.{Matrix, width, columns, covers}
use Rattle.node.specs.Stored.{FitsNode}
use Rattle.node.specs.Node.{is_taken, cost_at, free_of, open_rows, root, take, leave}
use Rattle.rules.specs.Reduce.{least_of}
use Rattle.rules.specs.Longest.{largest, dearest, topped, raised, floor}
use Rattle.node.proofs.Members.{not_so, here, there, member-cases, member-upto, upto_lt, least_at, least_le, least_mono}
use Rattle.rules.proofs.Plans.{Open, Free, FreeIn, not_taken, not_free, root-free, root-cost}
use Rattle.rules.proofs.Decide.{Decided, stays, decided_kept, still_free}
use Rattle.rules.proofs.Steps.{open_take, take_decides, take_self, take_other, leave_decides, leave-taken, leave-rest}
use Rattle.rules.proofs.Rows.{open_in, in_open, free_in_lem, in_free}
use Rattle.rules.proofs.Forcing.{TwoFree}

-- The largest of some numbers is above each of them, and below whatever they all are below.
pub le_largest : (f : ℕ → ℕ) (xs : List ℕ) (k : ℕ) → member k xs ≡ true → f k ≤ largest f xs
unfolding largest member
le_largest f [] k m = absurd (false≢true m)
le_largest f (x ∷ xs) k m =
    ⊎_elim (λ e. omega (arith, ap f e)) (λ h. omega (arith, le_largest f xs k h)) (member-cases k x xs m)

pub largest_le : (f : ℕ → ℕ) (xs : List ℕ) (c : ℕ) → ((k : ℕ) → member k xs ≡ true → f k ≤ c) → largest f xs ≤ c
unfolding largest
largest_le f [] c h = omega arith
largest_le f (x ∷ xs) c h = omega (arith, h x (here x xs), largest_le f xs c (λ k m. h k (there k x xs m)))

pub largest_cong : (f g : ℕ → ℕ) (xs : List ℕ) → ((k : ℕ) → member k xs ≡ true → f k ≡ g k) → largest f xs ≡ largest g xs
unfolding largest
largest_cong f g [] h = refl
largest_cong f g (x ∷ xs) h = omega (arith, h x (here x xs), largest_cong f g xs (λ k m. h k (there k x xs m)))

-- it is one of them, or 0
largest-at : (f : ℕ → ℕ) (xs : List ℕ) (c : ℕ) → c < largest f xs → (k : ℕ) × (member k xs ≡ true) × (largest f xs ≡ f k)
unfolding largest
largest-at f [] c l = absurd (omega arith)
largest-at f (x ∷ xs) c l = go (leb (largest f xs) (f x)) refl (λ m. largest-at f xs (f x) m)
  where
    go : (b : Bool) → leb (largest f xs) (f x) ≡ b
        → (f x < largest f xs → (k : ℕ) × (member k xs ≡ true) × (largest f xs ≡ f k))
        → (k : ℕ) × (member k (x ∷ xs) ≡ true) × (max (f x) (largest f xs) ≡ f k)
    go true e w = (x, here x xs, omega (arith, leb-true (largest f xs) (f x) e))
    go false e w =
        let m : f x < largest f xs = omega (arith, leb-false (largest f xs) (f x) e) in
        let r = w m in
        (r.0, there r.0 x xs r.1, omega (arith, r.2))

on_le : (x : Bool) (v c : ℕ) → (x ≡ true → v ≤ c) → on x v ≤ c
on_le true v c h = h refl
on_le false v c h = omega arith

module _ (p : Matrix) (cs : List ℕ) where
  -- the cost of the dearest column taken
  abbrev top : Node → ℕ
  top s = dearest p cs (is_taken s)

  top_le : (s : Node) (c : ℕ) → ((k : ℕ) → k < width p → is_taken s k ≡ true → get_or cs k 0 ≤ c) → top s ≤ c
  unfolding dearest
  top_le s c h =
      largest_le (λ k. on (is_taken s k) (get_or cs k 0)) (columns p) c
      (λ k m. on_le (is_taken s k) (get_or cs k 0) c (h k (upto_lt (width p) k m)))

  top_ge : (s : Node) (k : ℕ) → k < width p → is_taken s k ≡ true → get_or cs k 0 ≤ top s
  unfolding dearest
  top_ge s k l e = rw e at (le_largest (λ k. on (is_taken s k) (get_or cs k 0)) (columns p) k (member-upto (width p) k l))

  -- b is not above the dearest column taken, or not above any free column of an open row
  abbrev Backed : Node → ℕ → Type 0
  Backed s b = (b ≤ top s) ⊎ ((i : ℕ) × Open p s i × ((k : ℕ) → FreeIn p s i k → b ≤ cost_at s k))

  pub record Tight (s : Node) : Type 0 where
    -- the costs are those of the file
    pub file : (k : ℕ) → k < width p → cost_at s k ≡ get_or cs k 0
    pub reached : top s ≤ s.bound
    pub backed : Backed s s.bound

  -- columns decided, at the same costs
  module _ (s t : Node) (d : (k : ℕ) → k < width p → Decided s t k) (e : t.cost ≡ s.cost) where
    top_grows : top s ≤ top t
    top_grows = top_le s (top t) (λ k l h. top_ge t k l (rw (decided_kept (d k l) (not_free s k h)) h))

    still_backed : (b : ℕ) → ((i : ℕ) → Open p s i → ((k : ℕ) → FreeIn p s i k → b ≤ cost_at s k) → (b ≤ top t) ⊎ Open p t i)
        → Backed s b → Backed t b
    still_backed b h (inl l) = inl (omega (arith, l, top_grows))
    still_backed b h (inr r) =
        ⊎_elim inl
        (λ o. inr (r.0, o, λ k f. rw e (r.2 k (record { free = still_free p s t d k f.free; covering = f.covering }))))
        (h r.0 r.1 r.2)

  module _ (s : Node) (g : Tight s) where
    abbrev most : ℕ
    most = largest (least_of p s) (open_rows p s)

    -- the row with the largest least cost backs the raised bound
    raised_backed : (b : Bool) → leb most s.bound ≡ b → Backed s (max s.bound most)
    unfolding least_of
    raised_backed true e =
        let q : max s.bound most ≡ s.bound = omega (arith, leb-true most s.bound e) in
        rw q g.backed
    raised_backed false e =
        let r = largest-at (least_of p s) (open_rows p s) s.bound (leb-false most s.bound e) in
        inr (
          r.0,
          open_in p s r.0 r.1,
          λ k f. omega (
            arith,
            leb-false most s.bound e,
            r.2,
            least_le (cost_at s) (free_of p s r.0) k (in_free p s r.0 k f),
          ),
        )

    pub raised_tight : Tight (raised p s)
    unfolding raised
    raised_tight = record {
      file = g.file;
      reached = omega (arith, g.reached);
      backed = still_backed s (raised p s) (λ k l. stays refl) refl (max s.bound most)
          (λ i o h. inr (record { row = o.row; is_open_true = o.is_open_true })) (raised_backed (leb most s.bound) refl);
    }

    -- so where each open row has a free column, the raised bound is the floor
    least-file : (i : ℕ) → least (λ j. get_or cs j 0) (free_of p s i) ≡ least_of p s i
    unfolding least_of
    least-file i =
        let le : (k : ℕ) → member k (free_of p s i) ≡ true → cost_at s k ≡ get_or cs k 0 = λ k m. g.file k (free_in_lem p s i k m).free.col in
        omega (
          arith,
          least_mono (λ j. get_or cs j 0) (cost_at s) (free_of p s i) (λ k m. omega (arith, le k m)),
          least_mono (cost_at s) (λ j. get_or cs j 0) (free_of p s i) (λ k m. omega (arith, le k m)),
        )

    below-most : TwoFree p s → (b i : ℕ) → Open p s i → ((k : ℕ) → FreeIn p s i k → b ≤ cost_at s k) → b ≤ most
    unfolding least_of
    below-most two b i o h = go (free_of p s i) refl (two i o)
      where
        go : (js : List ℕ) → free_of p s i ≡ js → 2 ≤ length js → b ≤ most
        go [] e l = absurd (omega arith)
        go (j ∷ js) e l =
            let r = least_at (cost_at s) j js in
            omega (
              arith,
              h r.0 (free_in_lem p s i r.0 (rw e r.1)),
              r.2,
              ap (least (cost_at s)) e,
              le_largest (least_of p s) (open_rows p s) i (in_open p s i o),
            )

    raised-floor : TwoFree p s → (raised p s).bound ≡ floor p cs s
    unfolding raised floor
    raised-floor two =
        let e : largest (λ i. least (λ j. get_or cs j 0) (free_of p s i)) (open_rows p s) ≡ most =
        largest_cong (λ i. least (λ j. get_or cs j 0) (free_of p s i)) (least_of p s) (open_rows p s) (λ i m. least-file i) in
        ⊎_elim (λ l. omega (arith, e, l, g.reached))
        (λ r. omega (arith, e, below-most two s.bound r.0 r.1 r.2, g.reached)) g.backed

    -- a node's bound, raised where a row is open
    pub tight_floor : TwoFree p s → cond (is_empty (open_rows p s)) s.bound (raised p s).bound ≡ floor p cs s
    unfolding raised largest is_empty
    tight_floor two = go (open_rows p s) refl ∙ raised-floor two
      where
        go : (is : List ℕ) → open_rows p s ≡ is → cond (is_empty is) s.bound (raised p s).bound ≡ max s.bound most
        go [] e = omega (arith, ap (largest (least_of p s)) e)
        go (i ∷ is) e = refl

module _ (p : Matrix) (F : FitsNode p) (cs : List ℕ) where
  pub root_tight : Tight p cs (root p cs)
  unfolding root
  root_tight = record {
    file = root-cost p F cs;
    reached = top_le p cs (root p cs) 0 (λ k l e. absurd (true≢false (sym e ∙ not_taken (root p cs) k (root-free p F cs k l))));
    backed = inl (omega arith);
  }

  module _ (s : Node) (j : ℕ) (f : Free p s j) (g : Tight p cs s) where
    pub leave_tight : Tight p cs (leave s j)
    unfolding leave
    leave_tight =
        let t : Node = leave s j in
        let e = leave-rest p F s j f in
        let d : (k : ℕ) → k < width p → Decided s t k = leave_decides p F s j f in
        record {
          file = λ k l. rw e.0 (g.file k l);
          reached = rw e.1 (top_le p cs t s.bound (λ k l h.
              omega (arith, top_ge p cs s k l (sym (leave-taken p F s j f k l) ∙ h), g.reached)));
          backed = rw e.1 (still_backed p cs s t d e.0 s.bound
              (λ i o h. inr (record { row = o.row; is_open_true = rw e.2 o.is_open_true })) g.backed);
        }

    -- a row that closes costs the column's cost or less
    take_reached : (b : ℕ) → top p cs (take p s j b) ≤ topped s j
    take_reached b = top_le p cs (take p s j b) (topped s j) (λ k l h. go k l h (eqb k j) refl)
      where
        go : (k : ℕ) → k < width p → is_taken (take p s j b) k ≡ true → (c : Bool) → eqb k j ≡ c → get_or cs k 0 ≤ topped s j
        go k l h true e = omega (arith, ap (λ (i : ℕ). get_or cs i 0) (eqb-true k j e), g.file j f.col)
        go k l h false e =
            omega (arith, top_ge p cs s k l (sym (take_other p F s j f b k l (eqb-false k j e)) ∙ h), g.reached)

    take_backed : (b : ℕ) → (c : Bool) → leb s.bound (cost_at s j) ≡ c → Backed p cs (take p s j b) (topped s j)
    unfolding take
    take_backed b true e =
        inl (omega (
          arith,
          leb-true s.bound (cost_at s j) e,
          g.file j f.col,
          top_ge p cs (take p s j b) j f.col (take_self p F s j f b),
        ))
    take_backed b false e =
        let l : cost_at s j < s.bound = omega (arith, leb-false s.bound (cost_at s j) e) in
        let q : topped s j ≡ s.bound = omega (arith, l) in
        rw q (still_backed p cs s (take p s j b) (take_decides p F s j f b) refl s.bound
        (λ i o h.
        let n : covers p i j ≡ false = not_so (λ c. omega (arith, l, h j (record { free = f; covering = c }))) in
        inr (record { row = o.row; is_open_true = open_take p F s j b i o.row ∙ rw n o.is_open_true })) g.backed)

    pub take_tight : Tight p cs (take p s j (topped s j))
    unfolding take
    take_tight = record {
      file = g.file;
      reached = take_reached (topped s j);
      backed = take_backed (topped s j) (leb s.bound (cost_at s j)) refl;
    }
