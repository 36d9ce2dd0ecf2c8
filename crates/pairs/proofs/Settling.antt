-- A step of forcing, and the pairs where nothing is forced, leave a node that comes to what the first one does, with fewer free columns. Where
-- no pair asks anything of a node, the pairs leave it as it is, and else it changes or is dead.
use mathlib.Core.Path.{◌≡◌, refl, sym, ◌∙◌}
use mathlib.Core.Bool.{Bool, true, false, ◌||◌, false≢true, true≢false}
use mathlib.Core.List.{List, [], ◌∷◌}
use Prim.Native.Nat.{ℕ, ◌<◌}
use Rattle.node.specs.declared.Node.{Node}
use Rattle.node.specs.Matrix.{Matrix, IsPlan}
use Rattle.node.specs.Node.{take}
use Rattle.node.specs.View.{view}
use Rattle.node.specs.Stored.{matrix_in, FitsNode}
use Rattle.rules.specs.declared.Asked.{Asked}
use Rattle.rules.specs.declared.Asked.TheVariants as rows
use Rattle.rules.specs.declared.Goal.{Goal}
use Rattle.rules.specs.declared.PairAsked.{PairAsked}
use Rattle.rules.specs.declared.PairAsked.TheVariants.{TakeSecond, Dead, LeaveFirst, Nothing}
use Rattle.rules.specs.declared.Forced.{Forced}
use Rattle.rules.specs.Force.{asked, force_on}
use Rattle.rules.specs.Goals.{search_for, search_with}
use Rattle.rules.specs.Tree.{Variant, live, dead}
use Rattle.rules.specs.Pairs.{Pair, pairs_of, pair_asked, Passed, if_alive, if_changed, pass_on, pass}
use Rattle.rules.proofs.Plans.{Free}
use Rattle.rules.proofs.Steps.{take_less}
use Rattle.rules.proofs.Rows.{size}
use Rattle.rules.proofs.Forcing.{asked-free, force-step}
use Rattle.rules.proofs.Variants.{Stepping}
use Rattle.rules.proofs.Goals.{WorkableFor, goal_settle, goal_steps}
use Rattle.rules.proofs.Pairs.{PairsInside, pass_good, pass_fewer, paired-step}
use Rattle.rules.proofs.Sides.{WorkableWith, side-pairs}
use Rattle.goals.specs.Taking.{Takes}
use Rattle.forcing.proofs.Marks.{asked-marks}
use Rattle.pairs.specs.Asks.{asks, some_asks, node_after}
use Rattle.pairs.proofs.Passing.{pair-marks}

-- nothing is asked
none-asked : (x : PairAsked) → asks x ≡ false → x ≡ Nothing
none-asked TakeSecond e = absurd (true≢false e)
none-asked Dead e = absurd (true≢false e)
none-asked LeaveFirst e = absurd (true≢false e)
none-asked Nothing e = refl

or-false : (a b : Bool) → (a || b) ≡ false → (a ≡ false) × (b ≡ false)
or-false true b e = absurd (true≢false e)
or-false false b e = (refl, e)

idle : (join : Node → ℕ → ℕ) (p : Matrix) (qs : List Pair) (s : Node) (c : Bool) → some_asks s.column qs ≡ false
    → pass join p qs s c ≡ record { node = s; alive = true; changed = c }
unfolding pass pass_on some_asks
idle join p [] s c e = refl
idle join p (q ∷ qs) s c e =
    let h = or-false _ _ e in
    let is : pair_asked s q ≡ Nothing = sym (pair-marks s q) ∙ none-asked _ h.0 in
    rw is (idle join p qs s c h.1)

-- where a pair asks something, the node is dead or something changes; and what has changed stays so
module _ (join : Node → ℕ → ℕ) (p : Matrix) where
  kept : (qs : List Pair) (s : Node) → (pass join p qs s true).changed ≡ true
  unfolding pass pass_on
  kept [] s = refl
  kept (q ∷ qs) s = go (pair_asked s q) (kept qs)
    where
      go : (x : PairAsked) → ((t : Node) → (pass join p qs t true).changed ≡ true) → (pass_on join p x q s true (pass join p qs)).changed ≡ true
      go TakeSecond w = w _
      go Dead w = refl
      go LeaveFirst w = w _
      go Nothing w = w s

  busy : (qs : List Pair) (s : Node) → some_asks s.column qs ≡ true → (pass join p qs s false).alive ≡ true
      → (pass join p qs s false).changed ≡ true
  unfolding pass pass_on some_asks
  busy [] s e = absurd (false≢true e)
  busy (q ∷ qs) s e = go (pair_asked s q) (rw (pair-marks s q) at e) (busy qs s)
    where
      go : (x : PairAsked) → (asks x || some_asks s.column qs) ≡ true
          → (some_asks s.column qs ≡ true → (pass join p qs s false).alive ≡ true → (pass join p qs s false).changed ≡ true)
          → (pass_on join p x q s false (pass join p qs)).alive ≡ true → (pass_on join p x q s false (pass join p qs)).changed ≡ true
      go TakeSecond f w l = kept qs _
      go Dead f w l = absurd (false≢true l)
      go LeaveFirst f w l = kept qs _
      go Nothing f w l = w f l

-- at node n
pub record Settling (g : Goal) (side l : List ℕ) (s n : Node) : Type 0 where
  pub some : WorkableWith g side l n
  pub left : (search_with g side (matrix_in l)).settle n ≡ (search_with g side (matrix_in l)).settle s

-- what the open rows ask
module _ (g : Goal) (side l : List ℕ) (s n : Node) (w : Settling g side l s n) (found : Asked)
    (told : found ≡ asked (matrix_in l) (view [] n.column n.row)) where
  abbrev p : Matrix
  p = matrix_in l

  abbrev o : Variant
  o = search_for g (matrix_in l)

  abbrev qs : List Pair
  qs = pairs_of side

  F : FitsNode p
  F = w.some.some.kept.small.fits

  S : Stepping p o (IsPlan p) (WorkableFor g l)
  S = goal_steps g l w.some.some.kept

  inside : PairsInside p qs
  inside = side-pairs g side l w.some.some.kept w.some.fits

  -- a workable node is forced, and the pairs are gone through
  round : (t : Node) → WorkableFor g l t → (search_with g side p).settle t
      ≡ if_alive (o.settle t) (λ u. if_changed (pass o.join p qs u false) (search_with g side p).settle)
  round t h = paired-step p F o (IsPlan p) (WorkableFor g l) S qs inside t h

  is : found ≡ asked p n
  is = told ∙ asked-marks p n

  step : o.settle n ≡ force_on o.join found p n o.settle
  step = rw (is, goal_settle g p) (force-step p F o.join n)

  whole : if_alive (o.settle n) (λ u. if_changed (pass o.join p qs u false) (search_with g side p).settle) ≡ (search_with g side p).settle s
  whole = sym (round n w.some.some) ∙ w.left

  pub settling_dead : found ≡ rows.Dead → dead n ≡ (search_with g side (matrix_in l)).settle s
  unfolding force_on
  settling_dead h = rw (step, h) at whole

  -- column j is forced
  module _ (j : ℕ) (h : found ≡ rows.Take j) where
    free : Free p n j
    free = asked-free p F n j (sym is ∙ h)

    pub settling_takes : Takes g l n j
    settling_takes = record { some = w.some.some; free = free }

    module _ (m : Node) (e : m ≡ take (matrix_in l) n j ((search_for g (matrix_in l)).join n j)) where
      good : WorkableFor g l m
      good = rw e (S.taking n j free w.some.some)

      pub settling_less : size (matrix_in l) m < size (matrix_in l) n
      settling_less = rw e (take_less p F n j free (o.join n j))

      pub settling_taken : Settling g side l s m
      unfolding force_on
      settling_taken = record {
        some = record { some = good; fits = w.some.fits };
        left =
            let same : o.settle m ≡ o.settle n = rw e (sym (rw h at step)) in
            round m good ∙ rw same whole;
      }

  -- nothing is forced
  module _ (h : found ≡ rows.Settled) where
    goes : if_changed (pass o.join p qs n false) (search_with g side p).settle ≡ (search_with g side p).settle s
    unfolding force_on
    goes = rw (step, h) at whole

    pub settling_idle : some_asks n.column (pairs_of side) ≡ false → live n ≡ (search_with g side (matrix_in l)).settle s
    settling_idle e = rw (idle o.join p qs n false e) at goes

    -- the pairs gone through
    module _ (passed : Forced) (done : passed ≡ node_after (pass (search_for g (matrix_in l)).join (matrix_in l) (pairs_of side) n false)) where
      abbrev r : Passed
      r = pass (search_for g (matrix_in l)).join (matrix_in l) (pairs_of side) n false

      pub settling_ends : passed.alive ≡ false → dead passed.node ≡ (search_with g side (matrix_in l)).settle s
      settling_ends e =
          let ends : r.alive ≡ false = rw done at e in
          rw done (rw ends at goes)

      module _ (asking : some_asks n.column (pairs_of side) ≡ true) (lives : passed.alive ≡ true) where
        alive : r.alive ≡ true
        alive = rw done at lives

        changes : r.changed ≡ true
        changes = busy o.join p qs n asking alive

        pub settling_next : Settling g side l s passed.node
        settling_next = record {
          some = record {
            some = rw done (pass_good p F o (IsPlan p) (WorkableFor g l) S qs inside n w.some.some);
            fits = w.some.fits;
          };
          left = rw done (rw (alive, changes) at goes);
        }

        pub settling_fewer : size (matrix_in l) passed.node < size (matrix_in l) n
        settling_fewer = rw done (pass_fewer p F o (IsPlan p) (WorkableFor g l) S qs inside n w.some.some changes)
