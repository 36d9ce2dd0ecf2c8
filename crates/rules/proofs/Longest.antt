-- The search for the least largest cost keeps the laws of a variant: every plan that agrees with a node costs the larger of its bound and
-- the dearest of the plan's free columns. So it meets demand 3.
use mathlib.Core.Path.{◌≡◌, refl, sym, ap, ◌∙◌}
use mathlib.Core.Bool.{Bool, true, false, cond, ◌&&◌, true≢false}
use mathlib.Core.List.{List, [], ◌∷◌}
use Prim.Native.Nat.{ℕ, suc, ◌-◌, ◌≤◌, ◌<◌, max}
use native.Mathlib.Omega.{arith}
use lib.ListN.{length, get_or}
use lib.Dec.{leb, eqb}
use borrow.Author.Tests.{leb-true, leb-false, eqb-true, eqb-false}
use Rattle.node.specs.declared.Node.{Node}
use Rattle.node.specs.Lists.{on, least, is_empty}
use Rattle.node.specs.Matrix.{Matrix, width, columns, IsPlan, Shows}
use Rattle.node.specs.Stored.{FitsNode}
use Rattle.node.specs.Node.{is_free, is_taken, cost_at, free_columns, free_of, open_rows, taken, root, take, leave}
use Rattle.rules.specs.Reduce.{least_of}
use Rattle.rules.specs.declared.Forced.{Forced}
use Rattle.rules.specs.Search.{Incumbent, nothing}
use Rattle.rules.specs.Tree.{Variant, settled_with, live, zeros, dearer, penalty, row_before, sharing, column_before, branch_on, reduced, living, visit, full_tree, root_bound, answer}
use Rattle.rules.specs.Identity.{Completion}
use Rattle.rules.specs.Demand.{Demand3}
use Rattle.rules.specs.Longest.{largest, dearest, topped, raised, excess, longest, floor, with_bound, floored, by_floor}
use Rattle.node.proofs.Members.{member-upto, upto_lt, least_at, least_le}
use Rattle.rules.proofs.Plans.{Open, Free, FreeIn, Sound, not_taken, not_free, root_sound, root-free, root-cost, root_comp, comp_same}
use Rattle.rules.proofs.Plans.{sound_same}
use Rattle.rules.proofs.Decide.{Decided, stays, goes, joins, undo, still_free}
use Rattle.rules.proofs.Steps.{take_decides, take_self, take_other, take_sound, leave_decides, leave-taken, leave-rest, leave_sound}
use Rattle.rules.proofs.Rows.{size, open_in, in_open, free_in_lem, in_free, some-free}
use Rattle.rules.proofs.Variants.{Forces, Stepping, Laws, plain_forces}
use Rattle.rules.proofs.Walks.{walk_same}
use Rattle.rules.proofs.Visits.{Completes, visit_law}
use Rattle.rules.proofs.Demand.{demand_3, dead-answer, dead-settled}
use Rattle.rules.proofs.Floors.{largest_le, le_largest, largest_cong, Tight, root_tight, take_tight, leave_tight, raised_tight, tight_floor}

under : (f x : Bool) (v c : ℕ) → (f ≡ true → x ≡ true → v ≤ c) → on (f && x) v ≤ c
under true true v c h = h refl refl
under true false v c h = omega arith
under false x v c h = omega arith

module _ (p : Matrix) where
  -- the dearest of the free columns of a choice
  abbrev rest : Node → (ℕ → Bool) → ℕ
  rest s X = largest (λ k. on (is_free s k && X k) (cost_at s k)) (columns p)

  rest_ge : (s : Node) (X : ℕ → Bool) (k : ℕ) → Free p s k → X k ≡ true → cost_at s k ≤ rest s X
  rest_ge s X k f x =
      rw (f.is_free_true, x) at (le_largest (λ k. on (is_free s k && X k) (cost_at s k)) (columns p) k (member-upto (width p) k f.col))

  rest_le : (s : Node) (X : ℕ → Bool) (c : ℕ) → ((k : ℕ) → Free p s k → X k ≡ true → cost_at s k ≤ c) → rest s X ≤ c
  rest_le s X c h =
      largest_le (λ k. on (is_free s k && X k) (cost_at s k)) (columns p) c
      (λ k m. under (is_free s k) (X k) (cost_at s k) c (λ f. h k (record { col = upto_lt (width p) k m; is_free_true = f })))

  -- what holds of every node
  pub record High (cs : List ℕ) (s : Node) : Type 0 where
    pub sound : Sound p s
    pub identity : (X : ℕ → Bool) → Completion p s X → dearest p cs X ≡ max s.bound (rest s X)
    pub tight : Tight p cs s

  -- columns decided: a is the largest cost of those that join
  module _ (s t : Node) (d : (k : ℕ) → k < width p → Decided s t k) (e : t.cost ≡ s.cost) (X : ℕ → Bool) (c : Completion p t X) (a : ℕ)
      (join : (k : ℕ) → Free p s k → is_taken t k ≡ true → cost_at s k ≤ a) (low : a ≤ rest s X) where
    decided_rest : rest s X ≡ max a (rest t X)
    decided_rest = omega (arith, low, rest_le s X (max a (rest t X)) up, rest_le t X (rest s X) down)
      where
        down : (k : ℕ) → Free p t k → X k ≡ true → cost_at t k ≤ rest s X
        down k f x = rw e (rest_ge s X k (still_free p s t d k f) x)

        up : (k : ℕ) → Free p s k → X k ≡ true → cost_at s k ≤ max a (rest t X)
        up k f x = go (d k f.col)
          where
            go : Decided s t k → cost_at s k ≤ max a (rest t X)
            go (stays h) =
                omega (arith, ap (λ l. get_or l k 0) e, rest_ge t X k (record { col = f.col; is_free_true = rw h f.is_free_true }) x)
            go (goes q h) = absurd (true≢false (sym x ∙ rw h at (c.agrees k f.col (rw h))))
            go (joins q h) = omega (arith, join k f (rw h))

-- the steps keep what taking, leaving and raising keep
module _ (p : Matrix) where
  pub raised-parts : (s : Node) → ((raised p s).cost ≡ s.cost) × ((raised p s).column ≡ s.column) × ((raised p s).row ≡ s.row)
      × ((raised p s).bound ≡ max s.bound (largest (least_of p s) (open_rows p s)))
  unfolding raised
  raised-parts s = (refl, refl, refl, refl)

  -- the free column at the least cost of an open row is not above the raised bound
  raised-zero : (s : Node) (i : ℕ) → Open p (raised p s) i → 0 < length (free_of p (raised p s) i)
      → (k : ℕ) × FreeIn p (raised p s) i k × (excess (raised p s) k ≡ 0)
  unfolding free_of free_columns raised least_of
  raised-zero s i h l = go (free_of p s i) refl l
    where
      go : (js : List ℕ) → free_of p s i ≡ js → 0 < length js
          → (k : ℕ) × FreeIn p (raised p s) i k × (cost_at s k - max s.bound (largest (least_of p s) (open_rows p s)) ≡ 0)
      go [] e m = absurd (omega arith)
      go (j ∷ js) e m =
          let r = least_at (cost_at s) j js in
          let f : FreeIn p s i r.0 = free_in_lem p s i r.0 (rw e r.1) in
          let b = le_largest (least_of p s) (open_rows p s) i (in_open p s i (record { row = h.row; is_open_true = h.is_open_true })) in (
            r.0,
            record { free = record { col = f.free.col; is_free_true = f.free.is_free_true }; covering = f.covering },
            omega (arith, r.2, ap (least (cost_at s)) e, b),
          )

  pub longest_steps : FitsNode p → (G : Node → Type 0) → ((s : Node) → G s → Sound p s)
      → ((s : Node) (j : ℕ) → Free p s j → G s → G (take p s j (topped s j)))
      → ((s : Node) (j : ℕ) → Free p s j → G s → G (leave s j)) → ((s : Node) → G s → G (raised p s))
      → Stepping p (longest p) (IsPlan p) G
  longest_steps F G sound taking leaving raising = record {
    sound = sound;
    forcing = plain_forces p F topped G sound taking;
    taking = taking;
    leaving = leaving;
    reducing = λ s g. record {
      good = raising s g;
      same_column = (raised-parts s).1;
      same_row = (raised-parts s).2;
      zero = raised-zero s;
    };
  }

module _ (p : Matrix) (F : FitsNode p) (cs : List ℕ) where
  root_high : High p cs (root p cs)
  unfolding dearest root
  root_high = record {
    sound = root_sound p F cs;
    tight = root_tight p F cs;
    identity = λ X c. omega (
      arith,
      largest_cong (λ k. on (X k) (get_or cs k 0)) (λ k. on (is_free (root p cs) k && X k) (cost_at (root p cs) k)) (columns p)
          (λ k m. let l : k < width p = upto_lt (width p) k m in rw (root-free p F cs k l, root-cost p F cs k l)),
    );
  }

  module _ (s : Node) (j : ℕ) (f : Free p s j) (g : High p cs s) where
    take-parts : (b : ℕ) → ((take p s j b).cost ≡ s.cost) × ((take p s j b).bound ≡ b)
    unfolding take
    take-parts b = (refl, refl)

    -- no other column joins, and a completion has it
    take-only : (b k : ℕ) → Free p s k → is_taken (take p s j b) k ≡ true → k ≡ j
    take-only b k h e = go (eqb k j) refl
      where
        go : (c : Bool) → eqb k j ≡ c → k ≡ j
        go true q = eqb-true k j q
        go false q =
            absurd (true≢false (sym e ∙ take_other p F s j f b k h.col (eqb-false k j q) ∙ not_taken s k h.is_free_true))

    take-has : (b : ℕ) (X : ℕ → Bool) → Completion p (take p s j b) X → X j ≡ true
    take-has b X c =
        let e : is_taken (take p s j b) j ≡ true = take_self p F s j f b in
        c.agrees j f.col (not_free (take p s j b) j e) ∙ e

    take_high : High p cs (take p s j (topped s j))
    take_high =
        let b : ℕ = topped s j in
        let t : Node = take p s j b in
        let d : (k : ℕ) → k < width p → Decided s t k = take_decides p F s j f b in
        record {
          sound = take_sound p F s j f b g.sound;
          tight = take_tight p F cs s j f g.tight;
          identity = λ X c. omega (
            arith,
            g.identity X (undo p s t d X c),
            (take-parts b).1,
            decided_rest p s t d (take-parts b).0 X c (cost_at s j) (λ k h e. omega (arith, ap (cost_at s) (take-only b k h e)))
                (rest_ge p s X j f (take-has b X c)),
          );
        }

    leave_high : High p cs (leave s j)
    leave_high =
        let t : Node = leave s j in
        let d : (k : ℕ) → k < width p → Decided s t k = leave_decides p F s j f in
        record {
          sound = leave_sound p F s j f g.sound;
          tight = leave_tight p F cs s j f g.tight;
          identity = λ X c. omega (
            arith,
            g.identity X (undo p s t d X c),
            (leave-rest p F s j f).1,
            decided_rest p s t d (leave-rest p F s j f).0 X c 0
                (λ k h e. absurd (true≢false (sym e ∙ leave-taken p F s j f k h.col ∙ not_taken s k h.is_free_true))) (omega arith),
          );
        }

  -- a completion has a column of each open row, so it costs the row's least cost or more
  row_low : (s : Node) → High p cs s → (X : ℕ → Bool) → Completion p s X → (i : ℕ) → Open p s i → least_of p s i ≤ rest p s X
  unfolding least_of
  row_low s g X c i h = go (leb (least_of p s i) (rest p s X)) refl
    where
      go : (b : Bool) → leb (least_of p s i) (rest p s X) ≡ b → least_of p s i ≤ rest p s X
      go true e = leb-true (least_of p s i) (rest p s X) e
      go false e = absurd (some-free p s g.sound i h X c (λ k f x.
          omega (arith, leb-false (least_of p s i) (rest p s X) e, rest_ge p s X k f.free x, least_le (cost_at s) (free_of p s i) k (in_free p s i k f))))

  raised_high : (s : Node) → High p cs s → High p cs (raised p s)
  raised_high s g =
      let e = raised-parts p s in
      record {
        sound = sound_same p s (raised p s) e.1 e.2 g.sound;
        tight = raised_tight p cs s g.tight;
        identity = λ X c.
            let d : Completion p s X = comp_same p (raised p s) s (sym e.1) X c in
            rw (e.0, e.1) (omega (
              arith,
              e.3,
              g.identity X d,
              largest_le (least_of p s) (open_rows p s) (rest p s X) (λ i m. row_low s g X d i (open_in p s i m)),
            ));
      }

  pub longest_laws : Laws p (longest p) (live (root p cs)) (IsPlan p) (dearest p cs) (High p cs)
  longest_laws = record {
    steps = longest_steps p F (High p cs) (λ s g. g.sound) take_high leave_high raised_high;
    start_good = λ e. root_high;
    start_comp = λ X h. (refl, root_comp p F cs X h);
    low = λ s g X c. omega (arith, g.identity X c);
    above = λ s g X c k f x. omega (arith, g.identity X c, rest_ge p s X k f x);
    exact = λ s g X c h. omega (arith, g.identity X c, rest_le p s X 0 (λ k f x. absurd (true≢false (sym x ∙ h k f))));
  }

  pub longest_demand_3 : (limit : ℕ)
      → Demand3 p (longest p) (live (root p cs)) (IsPlan p) (dearest p cs) limit (answer (longest p) p (live (root p cs)) limit)
  longest_demand_3 = demand_3 p F (longest p) (IsPlan p) (dearest p cs) (High p cs) (live (root p cs)) longest_laws

  -- a node that lives on after it is forced, in whichever way keeps the laws
  module _ (settle : Node → Forced) (start : Forced) (Ok : (ℕ → Bool) → Type 0) (Good : Node → Type 0)
      (L : Laws p (settled_with settle (longest p)) start Ok (dearest p cs) Good) (high : (t : Node) → Good t → High p cs t) where
    abbrev o : Variant
    o = settled_with settle (longest p)

    abbrev v : Variant
    v = by_floor p cs settle

    -- the bound that the search gives it is P1's floor, raised if a row is open
    pub node-floor : (s : Node) → Good s → (settle s).alive ≡ true →
        let t : Node = (settle s).node in
        cond (is_empty (open_rows p t)) t.bound (raised p t).bound ≡ floor p cs t
    node-floor s g h =
        let f : Forces p Ok Good s (settle s) = L.steps.forcing s g in
        tight_floor p cs (settle s).node (high _ f.good).tight (f.two h)

    -- by the open rows
    floor-rows : (s : Node) → Good s → (settle s).alive ≡ true → (is : List ℕ) → open_rows p (settle s).node ≡ is
        → cond (is_empty is) (settle s).node.bound (raised p (settle s).node).bound ≡ floor p cs (settle s).node
    floor-rows s g h is q = rw q at (node-floor s g h)

    -- the search with the floor worked out anew visits each node alike,
    floor-visit : (s : Node) (k : Incumbent) → Good s → visit v p s k ≡ visit o p s k
    unfolding visit floored living reduced branch_on zeros dearer penalty row_before sharing column_before raised open_rows taken is_empty
    floor-visit s k g = go t.alive refl (open_rows p t.node) refl
      where
        t : Forced
        t = settle s

        u : Node
        u = with_bound t.node (floor p cs t.node)

        go : (b : Bool) → t.alive ≡ b → (is : List ℕ) → open_rows p t.node ≡ is → visit v p s k ≡ visit o p s k
        go false e is q = rw e
        go true e is q = rw (e, q) (by_rows is (floor-rows s g e is q))
          where
            by_rows : (js : List ℕ) → cond (is_empty js) t.node.bound (raised p t.node).bound ≡ floor p cs t.node
                → living v p u k js ≡ living o p t.node k js
            by_rows [] h = rw h
            by_rows (i ∷ js) h = rw h

    -- from a first node that is alive, the root or one that lists give
    module _ (alive : start.alive ≡ true) where
      abbrev s : Node
      s = start.node

      -- its lower bound (02: root floor) is its floor when it is forced
      pub root-floor : (settle start.node).alive ≡ true → root_bound (settled_with settle (longest p)) p start ≡ floor p cs (settle start.node).node
      unfolding root_bound
      root-floor h = node-floor s (L.start_good alive) h

      -- so the search with the floor worked out anew walks the same tree,
      floor_tree : full_tree v p start ≡ full_tree o p start
      unfolding full_tree
      floor_tree =
          rw alive (walk_same Ok (dearest p cs) (Shows p Ok (dearest p cs)) Good (size p) (Completes p Ok) (visit o p)
          (visit_law p F o Ok (dearest p cs) Good start L) (visit v p) (λ t k g. floor-visit t k g)
          (suc (width p)) s nothing (L.start_good alive))

      floor-bound : (settle s).alive ≡ true → root_bound v p start ≡ root_bound o p start
      unfolding floored root_bound
      floor-bound e =
          let t : Forced = settle s in
          let u : Node = with_bound t.node (floor p cs t.node) in
          rw e (both (is_empty (open_rows p u)) u.bound) ∙ sym (root-floor e)
        where
          both : (b : Bool) (n : ℕ) → cond b n n ≡ n
          both true n = refl
          both false n = refl

    -- and answers alike, for any allowance
    pub floor-answer : (limit : ℕ) → 1 ≤ limit → answer (by_floor p cs settle) p start limit ≡ answer (settled_with settle (longest p)) p start limit
    unfolding answer floored
    floor-answer limit l = go start.alive refl (settle start.node).alive refl
      where
        go : (a : Bool) → start.alive ≡ a → (b : Bool) → (settle start.node).alive ≡ b → answer v p start limit ≡ answer o p start limit
        go false d b e = dead-answer v p start d limit l ∙ sym (dead-answer o p start d limit l)
        go true d true e = rw (floor_tree d, floor-bound d e)
        go true d false e =
            let is : start ≡ live start.node = rw (← d) in
            rw is (dead-settled v p start.node (rw e) _ limit l ∙ sym (dead-settled o p start.node e _ limit l))
