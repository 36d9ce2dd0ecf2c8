-- Settling a node is forcing it and, where it is alive with open rows, reducing it. Forcing keeps a node workable, so that it can be reduced.
use mathlib.Core.Path.{◌≡◌, refl, ap, sym, ◌∙◌}
use mathlib.Core.Bool.{Bool, true, false, false≢true, true≢false}
use mathlib.Core.List.{List, [], ◌∷◌}
use Prim.Native.Nat.{ℕ}
use Rattle.node.specs.declared.Node.{Node}
use Rattle.node.specs.Lists.{is_empty}
use Rattle.node.specs.Matrix.{Matrix}
use Rattle.node.specs.Node.{open_rows}
use Rattle.node.specs.View.{view}
use Rattle.node.specs.Stored.{matrix_in}
use Rattle.rules.specs.declared.Forced.{Forced}
use Rattle.rules.specs.declared.Goal.{Goal}
use Rattle.rules.specs.Tree.{Variant}
use Rattle.rules.specs.Goals.{search_with}
use Rattle.rules.proofs.Variants.{Stepping}
use Rattle.rules.proofs.Goals.{WorkableFor}
use Rattle.rules.proofs.Sides.{Allowed, WorkableWith, side_steps}
use Rattle.visit.specs.declared.Settled.{Settled}
use Rattle.visit.specs.Settled.{settled_by, settled}

-- by the open rows
module _ (o : Variant) (s : Node) where
  open_none : (is : List ℕ) → true ≡ is_empty is → record { node = s; alive = true; full = true } ≡ settled_by o true s is
  unfolding is_empty settled_by
  open_none [] h = refl
  open_none (i ∷ is) h = absurd (true≢false h)

  open_some : (is : List ℕ) → false ≡ is_empty is → record { node = o.lowered s; alive = true; full = false } ≡ settled_by o true s is
  unfolding is_empty settled_by
  open_some [] h = absurd (false≢true h)
  open_some (i ∷ is) h = refl

-- what forcing gives, and then whether no row is open
module _ (o : Variant) (p : Matrix) (s : Node) (forced : Forced) (told : forced ≡ o.settle s) where
  by : (b : Bool) → forced.alive ≡ b → settled_by o b forced.node (open_rows p forced.node) ≡ settled o p s
  unfolding settled
  by b e = rw (← told) (ap (λ (x : Bool). settled_by o x forced.node (open_rows p forced.node)) (sym e))

  pub settle-dead : forced.alive ≡ false → record { node = forced.node; alive = false; full = false } ≡ settled o p s
  unfolding settled_by
  settle-dead e = by false e

  module _ (e : forced.alive ≡ true) (b : Bool) (full : b ≡ is_empty (open_rows p (view [] [] forced.node.row))) where
    pub settle-full : b ≡ true → record { node = forced.node; alive = true; full = true } ≡ settled o p s
    unfolding open_rows
    settle-full h = open_none o forced.node (open_rows p forced.node) (sym h ∙ full) ∙ by true e

    pub settle_open : b ≡ false → (n : Node) → n ≡ o.lowered forced.node → record { node = n; alive = true; full = false } ≡ settled o p s
    unfolding open_rows
    settle_open h n d = rw d (open_some o forced.node (open_rows p forced.node) (sym h ∙ full) ∙ by true e)

-- a node forced or settled is workable where it was
module _ (g : Goal) (side l : List ℕ) (s : Node) (w : WorkableWith g side l s) where
  o : Variant
  o = search_with g side (matrix_in l)

  S : Stepping (matrix_in l) (search_with g side (matrix_in l)) (Allowed side (matrix_in l)) (WorkableFor g l)
  S = side_steps g side l w.some.kept w.fits

  pub forced_workable : (forced : Forced) → forced ≡ (search_with g side (matrix_in l)).settle s → WorkableFor g l forced.node
  forced_workable forced e = rw e (S.forcing s w.some).good

  pub settled-workable : (x : Settled) → x ≡ settled (search_with g side (matrix_in l)) (matrix_in l) s → WorkableFor g l x.node
  unfolding settled settled_by o
  settled-workable x e = rw e (go (o.settle s).alive (open_rows (matrix_in l) (o.settle s).node))
    where
      f : WorkableFor g l (o.settle s).node
      f = forced_workable (o.settle s) refl

      go : (b : Bool) (is : List ℕ) → WorkableFor g l (settled_by o b (o.settle s).node is).node
      go false is = f
      go true [] = f
      go true (i ∷ is) = (S.reducing (o.settle s).node f).good
