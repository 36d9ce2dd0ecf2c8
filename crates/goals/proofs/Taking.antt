-- The bound with a free column taken, by the goal; neither a sum nor a larger number passes what a number holds.
use mathlib.Core.Path.{◌≡◌, refl, ap, ◌∙◌}
use mathlib.Core.List.{List}
use Prim.Native.Nat.{ℕ, ◌+◌, ◌<◌}
use native.Mathlib.Omega.{arith}
use Rattle.node.specs.declared.Node.{Node}
use Rattle.node.specs.Matrix.{Matrix}
use Rattle.node.specs.Node.{cost_at, take}
use Rattle.node.specs.Stored.{matrix_in, HasColumn}
use Rattle.rules.specs.declared.Goal.{Goal}
use Rattle.rules.specs.declared.Goal.TheVariants.{Sum, Longest}
use Rattle.rules.specs.Goals.{search_for}
use Rattle.rules.proofs.Plans.{Free}
use Rattle.rules.proofs.Costs.{cost_limit, fair_room}
use Rattle.rules.proofs.Goals.{FairFor, WorkableFor}
use Rattle.goals.specs.Taking.{join_of, Takes}

joined_is : (g : Goal) (p : Matrix) (s : Node) (j : ℕ) → join_of g s.bound (cost_at s j) ≡ (search_for g p).join s j
unfolding join_of search_for
joined_is Sum p s j = refl
joined_is Longest p s j = refl

room : (g : Goal) (l : List ℕ) (s : Node) (j : ℕ) → WorkableFor g l s → Free (matrix_in l) s j → s.bound + cost_at s j < 4294967296
unfolding FairFor
room Sum l s j w f = omega (arith, fair_room (matrix_in l) w.kept.small cost_limit s w.fair j f)
room Longest l s j w f = omega (arith, w.fair.low, w.fair.costs j f.col)

module _ (g : Goal) (l : List ℕ) (s : Node) (j : ℕ) (t : Takes g l s j) where
  pub takes-room : s.bound + cost_at s j < 4294967296
  takes-room = room g l s j t.some t.free

  pub takes-column : HasColumn l j
  takes-column = record { kept = t.some.kept; column = t.free.col }

  pub takes_low : j < 256
  takes_low = omega (arith, t.free.col, t.some.kept.small.fits.wide)

  -- the column taken with the bound that the code works out
  pub takes-is : (b : ℕ) → b ≡ join_of g s.bound (cost_at s j) → (a : Node) → a ≡ take (matrix_in l) s j b
      → a ≡ take (matrix_in l) s j ((search_for g (matrix_in l)).join s j)
  takes-is b e a h = h ∙ ap (take (matrix_in l) s j) (e ∙ joined_is g (matrix_in l) s j)
