-- The side constraints that code hands down to every node as one list: what they ask of the list, and that the steps of the search with
-- them keep a node workable.
use mathlib.Core.Bool.{Bool}
use mathlib.Core.List.{List}
use Prim.Native.Nat.{ℕ}
use Rattle.node.specs.declared.Node.{Node}
use Rattle.node.specs.Matrix.{Matrix, width, IsPlan}
use Rattle.node.specs.Stored.{matrix_in, Kept}
use Rattle.rules.specs.declared.Goal.{Goal}
use Rattle.rules.specs.Goals.{search_for, search_with}
use Rattle.rules.specs.Pairs.{pairs_of, Paired}
use Rattle.rules.proofs.Variants.{Stepping}
use Rattle.rules.proofs.Pairs.{PairsInside, paired_steps}
use Rattle.rules.proofs.Goals.{WorkableFor, goal_steps}
use Rattle.rules.proofs.Numbers.{Numbers, numbers-pairs}

-- numbers of columns
abbrev pub SideFits : List ℕ → List ℕ → Type 0
SideFits l side = Numbers (width (matrix_in l)) side

-- the choices that the side constraints allow
abbrev pub Allowed : List ℕ → Matrix → (ℕ → Bool) → Type 0
Allowed side p = Paired (IsPlan p) (pairs_of side)

pub record WorkableWith (g : Goal) (side l : List ℕ) (s : Node) : Type 0 where
  pub some : WorkableFor g l s
  pub fits : SideFits l side

module _ (g : Goal) (side l : List ℕ) (k : Kept l) (f : SideFits l side) where
  pub side-pairs : PairsInside (matrix_in l) (pairs_of side)
  side-pairs = numbers-pairs (width (matrix_in l)) side f

  pub side_steps : Stepping (matrix_in l) (search_with g side (matrix_in l)) (Allowed side (matrix_in l)) (WorkableFor g l)
  side_steps =
      let p : Matrix = matrix_in l in
      paired_steps p k.small.fits (search_for g p) (IsPlan p) (WorkableFor g l) (goal_steps g l k) (pairs_of side) side-pairs
