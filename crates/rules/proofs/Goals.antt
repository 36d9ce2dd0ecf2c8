-- Both goals as one: the steps of a search, and what they ask of a node and keep.
use mathlib.Core.Path.{◌≡◌, refl}
use mathlib.Core.List.{List, [], ◌∷◌}
use Prim.Native.Nat.{ℕ, ◌≤◌, ◌<◌}
use native.Mathlib.Omega.{arith}
use Rattle.node.specs.declared.Node.{Node}
use Rattle.node.specs.Lists.{least}
use Rattle.node.specs.Matrix.{Matrix, width, IsPlan}
use Rattle.node.specs.Node.{cost_at, free_of, open_rows, root, take, leave}
use Rattle.node.specs.Stored.{matrix_in, Kept, FitsNode}
use Rattle.rules.specs.declared.Goal.{Goal}
use Rattle.rules.specs.declared.Goal.TheVariants.{Sum, Longest}
use Rattle.rules.specs.Force.{force}
use Rattle.rules.specs.Reduce.{least_of, precedes}
use Rattle.rules.specs.Longest.{topped, raised}
use Rattle.rules.specs.Goals.{search_for}
use Rattle.node.proofs.Members.{least_at}
use Rattle.rules.proofs.Plans.{Free, Sound, root-free, sound_same}
use Rattle.rules.proofs.Steps.{take_sound, leave_sound, leave-rest}
use Rattle.rules.proofs.Rows.{free_in_lem}
use Rattle.rules.proofs.Variants.{Stepping}
use Rattle.rules.proofs.Costs.{Fair, cost_limit, Workable, fair_cost, take_fair, leave_fair, lower_fair}
use Rattle.rules.proofs.Sum.{sum_steps}
use Rattle.rules.proofs.Floors.{largest_le}
use Rattle.rules.proofs.Longest.{raised-parts, longest_steps}

pub goal_settle : (g : Goal) (p : Matrix) → (search_for g p).settle ≡ force (search_for g p).join p
unfolding search_for
goal_settle Sum p = refl
goal_settle Longest p = refl

-- what the code's steps ask for the longest duty, as `Fair` is for the sum: no cost and no bound is above a limit
pub record Level (p : Matrix) (top : ℕ) (s : Node) : Type 0 where
  pub sound : Sound p s
  pub costs : (k : ℕ) → k < width p → cost_at s k ≤ top
  pub low : s.bound ≤ top

module _ (p : Matrix) (F : FitsNode p) (top : ℕ) (s : Node) (w : Level p top s) where
  take_level : (j : ℕ) → Free p s j → Level p top (take p s j (topped s j))
  unfolding take
  take_level j f = record {
    sound = take_sound p F s j f (topped s j) w.sound;
    costs = w.costs;
    low = omega (arith, w.low, w.costs j f.col);
  }

  leave_level : (j : ℕ) → Free p s j → Level p top (leave s j)
  leave_level j f =
      let r = leave-rest p F s j f in
      record { sound = leave_sound p F s j f w.sound; costs = rw r.0 w.costs; low = rw r.1 w.low }

  least_level : (i : ℕ) → least_of p s i ≤ top
  unfolding least_of least
  least_level i = go (free_of p s i) refl
    where
      go : (js : List ℕ) → free_of p s i ≡ js → least (cost_at s) js ≤ top
      go [] e = omega arith
      go (j ∷ js) e =
          let r = least_at (cost_at s) j js in
          omega (arith, r.2, w.costs r.0 (free_in_lem p s i r.0 (rw e r.1)).free.col)

  raised_level : Level p top (raised p s)
  raised_level =
      let e = raised-parts p s in
      record {
        sound = sound_same p s (raised p s) e.1 e.2 w.sound;
        costs = rw e.0 w.costs;
        low = omega (arith, e.3, w.low, largest_le (least_of p s) (open_rows p s) top (λ i m. least_level i));
      }

-- by the goal
unfoldable pub FairFor : Goal → Matrix → Node → Type 0
FairFor Sum p s = Fair p cost_limit s
FairFor Longest p s = Level p cost_limit s

pub record WorkableFor (g : Goal) (l : List ℕ) (s : Node) : Type 0 where
  pub kept : Kept l
  pub fair : FairFor g (matrix_in l) s

-- what the code's steps ask is kept by the steps
pub goal_steps : (g : Goal) (l : List ℕ) → Kept l
    → Stepping (matrix_in l) (search_for g (matrix_in l)) (IsPlan (matrix_in l)) (WorkableFor g l)
unfolding search_for FairFor
goal_steps Sum l k =
    sum_steps precedes (matrix_in l) k.small.fits (WorkableFor Sum l) (λ s w. w.fair.sound)
    (λ s j f w. record { kept = k; fair = take_fair (matrix_in l) k.small.fits s j f k.small w.fair })
    (λ s j f w. record { kept = k; fair = leave_fair (matrix_in l) k.small.fits s j f w.fair })
    (λ s i a w o j f fits. record { kept = k; fair = lower_fair (matrix_in l) k.small.fits s i a w.fair o j f fits })
goal_steps Longest l k =
    longest_steps (matrix_in l) k.small.fits (WorkableFor Longest l) (λ s w. w.fair.sound)
    (λ s j f w. record { kept = k; fair = take_level (matrix_in l) k.small.fits cost_limit s w.fair j f })
    (λ s j f w. record { kept = k; fair = leave_level (matrix_in l) k.small.fits cost_limit s w.fair j f })
    (λ s w. record { kept = k; fair = raised_level (matrix_in l) k.small.fits cost_limit s w.fair })

pub sum-workable : (l : List ℕ) (s : Node) → WorkableFor Sum l s → Workable l s
unfolding FairFor
sum-workable l s w = record { kept = w.kept; fair = w.fair }

-- all columns of the root are free, and its bound is 0
pub goal_root : (g : Goal) (l cs : List ℕ) → Workable l (root (matrix_in l) cs) → WorkableFor g l (root (matrix_in l) cs)
unfolding FairFor root
goal_root Sum l cs w = record { kept = w.kept; fair = w.fair }
goal_root Longest l cs w =
    let p : Matrix = matrix_in l in
    record {
      kept = w.kept;
      fair = record {
        sound = w.fair.sound;
        costs = λ k h. fair_cost p w.kept.small cost_limit (root p cs) w.fair k (record { col = h; is_free_true = root-free p w.kept.small.fits cs k h });
        low = omega arith;
      };
    }
