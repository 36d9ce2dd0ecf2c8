-- A node and its branches, as the walk within a limit goes through them. The fuel is any number above the free columns: at each node it
-- falls by one, and the free columns fall as well.
use mathlib.Core.Path.{◌≡◌, refl, ap, sym, ◌∙◌}
use mathlib.Core.Bool.{Bool, true, false, cond, ◌&&◌, false≢true, true≢false}
use mathlib.Core.List.{List}
use Prim.Native.Nat.{ℕ, zero, suc, ◌+◌, ◌≤◌, ◌<◌}
use native.Mathlib.Omega.{arith}
use lib.Dec.{leb}
use borrow.Author.Tests.{eq-eqb, ne_eqb}
use Rattle.node.specs.declared.Node.{Node}
use Rattle.node.specs.Matrix.{Matrix, width}
use Rattle.node.specs.Node.{taken, take, leave}
use Rattle.node.specs.Stored.{matrix_in, FitsNode}
use Rattle.rules.specs.Search.{Incumbent, reaches, Visit, ended, full, split}
use Rattle.rules.specs.Limited as rules
use Rattle.rules.specs.Limited.{entered, halted, offered, onward, proceed, admit, limited}
use Rattle.rules.specs.declared.Goal.{Goal}
use Rattle.rules.specs.Tree.{Variant, visit}
use Rattle.rules.specs.Goals.{search_for, search_with}
use Rattle.rules.proofs.Plans.{Free}
use Rattle.rules.proofs.Rows.{size}
use Rattle.rules.proofs.Steps.{take_less, leave-less}
use Rattle.rules.proofs.Variants.{Stepping}
use Rattle.rules.proofs.Goals.{WorkableFor}
use Rattle.rules.proofs.Sides.{Allowed, side_steps}
use Rattle.goals.specs.Taking.{Takes}
use Rattle.tally.specs.declared.Tally.{Tally}
use Rattle.visit.specs.declared.Settled.{Settled}
use Rattle.tally.specs.Tally.{taken_in, kept_in, shown}
use Rattle.visit.specs.Settled.{settled}
use Rattle.tally.proofs.Offers.{reached}
use Rattle.visit.proofs.Settling.{settled-workable}
use Rattle.tree.specs.declared.Choice.{Choice}
use Rattle.tree.specs.Walks.{Walks, Branching, branches, choice_of}
use Rattle.tree.proofs.Settles.{Settles, settles}
use Rattle.tree.proofs.Choosing.{chosen-free, chosen-splits}
use Rattle.tree.proofs.Sides.{splits-same, branches-same}

-- what follows the first branch: nothing where the walk is stopped or the second one's bound is reached
module _ (r : Bool) (T : rules.Tally) (w : rules.Tally → rules.Tally) where
  onward_stops : (b : Bool) → b ≡ true → T ≡ onward b r T w
  unfolding onward
  onward_stops true h = refl
  onward_stops false h = absurd (false≢true h)

  onward_reached : (b : Bool) → b ≡ false → r ≡ true → T ≡ onward b r T w
  unfolding onward
  onward_reached true h e = absurd (true≢false h)
  onward_reached false h e = rw e

  onward_goes : (b : Bool) → b ≡ false → r ≡ false → w T ≡ onward b r T w
  unfolding onward
  onward_goes true h e = absurd (true≢false h)
  onward_goes false h e = rw e

-- a node that is entered
module _ (look : Node → Incumbent → Visit Node) (f : ℕ) (s : Node) (T U : rules.Tally) where
  admitted : (T.left ≡ 0 → ⊥) → U ≡ entered T → proceed (look s U.kept) U (limited look f) ≡ limited look (suc f) s T
  unfolding limited admit
  admitted h e = rw (ne_eqb T.left 0 h, e)

-- a node that is entered leaves one less
module _ (t u : Tally) (left : t.left ≡ 0 → ⊥) (enters : (w : ℕ) → shown w u ≡ entered (shown w t)) where
  pub entered-sum : u.nodes + u.left ≡ t.nodes + t.left
  entered-sum =
      let n : u.nodes ≡ t.nodes + 1 = ap (λ (x : rules.Tally). x.nodes) (enters 0) in
      omega (arith, ap (λ (x : rules.Tally). x.left) (enters 0))

-- whatever else changes, a plan offered and a halt leave the nodes as they were
pub halted-sum : (t r : Tally) → ((w : ℕ) → shown w r ≡ halted (shown w t)) → r.nodes + r.left ≡ t.nodes + t.left
halted-sum t r e = ap (λ (x : rules.Tally). x.nodes + x.left) (e 0)

pub offered-sum : (t r : Tally) (c : ℕ) (marks : List ℕ) → ((w : ℕ) → shown w r ≡ offered (shown w t) c (taken_in w marks)) →
    r.nodes + r.left ≡ t.nodes + t.left
offered-sum t r c marks e = ap (λ (x : rules.Tally). x.nodes + x.left) (e 0)

-- r is what the walk of node s comes to from t; and what the branches of s come to
abbrev pub NodeTo : Variant → Matrix → Node → Tally → Tally → Type 0
NodeTo o p s t r = (f : ℕ) → size p s < f → shown (width p) r ≡ limited (visit o p) f s (shown (width p) t)

abbrev pub BranchTo : Variant → Matrix → Node → Tally → Tally → Type 0
BranchTo o p s t r = (f : ℕ) → size p s ≤ f → shown (width p) r ≡ proceed (branches o p s) (shown (width p) t) (limited (visit o p) f)

module _ (o : Variant) (p : Matrix) (s : Node) (t : Tally) where
  pub node-halts : t.left ≡ 0 → (r : Tally) → ((w : ℕ) → shown w r ≡ halted (shown w t)) → NodeTo o p s t r
  unfolding limited admit
  node-halts z r e zero l = absurd (omega arith)
  node-halts z r e (suc f) l = e (width p) ∙ rw (eq-eqb t.left 0 z)

  -- entered, and settled to x
  module _ (left : t.left ≡ 0 → ⊥) (u : Tally) (enters : (w : ℕ) → shown w u ≡ entered (shown w t)) (x : Settled) (c : Settles o p s x) where
    -- by what the node comes to
    step : (f : ℕ) (v : Visit Node) → visit o p s (kept_in (width p) u) ≡ v →
        proceed v (shown (width p) u) (limited (visit o p) f) ≡ limited (visit o p) (suc f) s (shown (width p) t)
    step f v e =
        ap (λ (v : Visit Node). proceed v (shown (width p) u) (limited (visit o p) f)) (sym e)
        ∙ admitted (visit o p) f s (shown (width p) t) (shown (width p) u) left (enters (width p))

    pub node-ends : x.alive ≡ false → NodeTo o p s t u
    unfolding proceed
    node-ends h zero l = absurd (omega arith)
    node-ends h (suc f) l = step f ended (c.dead h (kept_in (width p) u))

    module _ (alive : x.alive ≡ true) where
      pub node-offers : x.full ≡ true → (r : Tally) →
          ((w : ℕ) → shown w r ≡ offered (shown w u) x.node.bound (taken_in w x.node.column)) → NodeTo o p s t r
      unfolding proceed taken
      node-offers h r e zero l = absurd (omega arith)
      node-offers h r e (suc f) l = e (width p) ∙ step f (full x.node.bound (taken p x.node)) (c.plan alive h (kept_in (width p) u))

      -- it branches, unless its bound reaches the incumbent
      module _ (part : x.full ≡ false) (b : Bool) (is : b ≡ (u.kept && leb u.cost x.node.bound)) where
        visits : visit o p s (kept_in (width p) u) ≡ cond b ended (branches o p x.node)
        visits =
            c.going alive part (kept_in (width p) u)
            ∙ ap (λ (y : Bool). cond y ended (branches o p x.node))
            (sym (is ∙ reached u.cost x.node.bound (taken_in (width p) u.plan) u.kept))

        pub node-reached : b ≡ true → NodeTo o p s t u
        unfolding proceed
        node-reached h zero l = absurd (omega arith)
        node-reached h (suc f) l = step f ended (rw h at visits)

        pub node-branches : b ≡ false → (r : Tally) → BranchTo o p x.node u r → NodeTo o p s t r
        node-branches h r e zero l = absurd (omega arith)
        node-branches h r e (suc f) l = e f (omega (arith, c.less)) ∙ step f (branches o p x.node) (rw h at visits)

-- a workable node, settled
module _ (g : Goal) (side l : List ℕ) (s : Node) (t : Tally) (w : Walks g side l s t) (x : Settled)
    (told : x ≡ settled (search_with g side (matrix_in l)) (matrix_in l) s) where
  pub comes : Settles (search_with g side (matrix_in l)) (matrix_in l) s x
  comes =
      let p : Matrix = matrix_in l in
      rw told (settles (search_with g side p) p (Allowed side p) (WorkableFor g l) (side_steps g side l w.some.some.kept w.some.fits) s w.some.some)

  pub can_branch : (u : Tally) → u.nodes + u.left ≡ t.nodes + t.left → x.alive ≡ true → x.full ≡ false → Branching g side l x.node u
  can_branch u e alive part = record {
    node = record {
      some = settled-workable g side l s w.some x told;
      splits = splits-same g side (matrix_in l) x.node (comes.splits alive part);
    };
    fits = w.some.fits;
    count = omega (arith, e, w.count);
  }

-- the branches of s on a column
module _ (g : Goal) (side l : List ℕ) (s : Node) (t : Tally) (w : Branching g side l s t) (c : Choice)
    (told : c ≡ choice_of (search_for g (matrix_in l)) (matrix_in l) s) where
  abbrev p : Matrix
  p = matrix_in l

  abbrev o : Variant
  o = search_with g side p

  abbrev j : ℕ
  j = c.column

  F : FitsNode p
  F = w.node.some.kept.small.fits

  S : Stepping p o (Allowed side p) (WorkableFor g l)
  S = side_steps g side l w.node.some.kept w.fits

  free : Free p s j
  free = rw told (chosen-free (search_for g p) p s w.node.splits)

  parts : branches o p s ≡ split (take p s j (o.join s j)) (leave s j) c.bound
  parts = branches-same g side p s ∙ rw told (chosen-splits (search_for g p) p s w.node.splits)

  pub column-low : c.column < 256
  column-low = omega (arith, free.col, F.wide)

  pub can_take : Takes g l s c.column
  can_take = record { some = w.node.some; free = free }

  -- a takes it, z leaves it
  module _ (a : Node) (with : a ≡ take (matrix_in l) s c.column ((search_for g (matrix_in l)).join s c.column)) where
    pub first-falls : size (matrix_in l) a < size (matrix_in l) s
    first-falls = rw with (take_less p F s j free (o.join s j))

    pub first_walks : Walks g side l a t
    first_walks = record { some = record { some = rw with (S.taking s j free w.node.some); fits = w.fits }; count = w.count }

    module _ (u : Tally) (walked : NodeTo (search_with g side (matrix_in l)) (matrix_in l) a t u) where
      -- after the first branch
      onwards : (f : ℕ) → size p s ≤ f →
          onward u.stopped (reaches c.bound (kept_in (width p) u)) (shown (width p) u) (limited (visit o p) f (leave s j))
          ≡ proceed (branches o p s) (shown (width p) t) (limited (visit o p) f)
      unfolding proceed
      onwards f h =
          let e : shown (width p) u ≡ limited (visit o p) f (take p s j (o.join s j)) (shown (width p) t) =
          rw with at (walked f (omega (arith, first-falls))) in
          rw (parts, ← e)

      pub branch-stops : u.stopped ≡ true → BranchTo (search_with g side (matrix_in l)) (matrix_in l) s t u
      branch-stops h f q = onward_stops _ _ _ u.stopped h ∙ onwards f q

      module _ (on : u.stopped ≡ false) (y : Bool) (is : y ≡ (u.kept && leb u.cost c.bound)) where
        meets : y ≡ reaches c.bound (kept_in (width p) u)
        meets = is ∙ reached u.cost c.bound (taken_in (width p) u.plan) u.kept

        pub branch-reached : y ≡ true → BranchTo (search_with g side (matrix_in l)) (matrix_in l) s t u
        branch-reached h f q = onward_reached _ _ _ u.stopped on (sym meets ∙ h) ∙ onwards f q

        pub branch-goes : y ≡ false → (z : Node) → z ≡ leave s c.column → (r : Tally) → NodeTo (search_with g side (matrix_in l)) (matrix_in l) z u r →
            BranchTo (search_with g side (matrix_in l)) (matrix_in l) s t r
        branch-goes h z e r v f q =
            (rw e at (v f (rw e (omega (arith, leave-less p F s j free)))))
            ∙ onward_goes _ _ _ u.stopped on (sym meets ∙ h) ∙ onwards f q

  module _ (z : Node) (e : z ≡ leave s c.column) where
    pub second-falls : size (matrix_in l) z < size (matrix_in l) s
    second-falls = rw e (leave-less p F s j free)

    pub second_walks : (u : Tally) → u.nodes + u.left ≡ t.nodes + t.left → Walks g side l z u
    second_walks u q = record { some = record { some = rw e (S.leaving s j free w.node.some); fits = w.fits }; count = omega (arith, w.count) }
