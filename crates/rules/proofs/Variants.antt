-- What a variant of the search owes, so that its visits are lawful and the tree finds the least value. `Ok` says which choices are
-- allowed, `value` what is minimised, and `Good` what holds of every node.
use mathlib.Core.Path.{◌≡◌}
use mathlib.Core.Bool.{Bool, true, false}
use Prim.Native.Nat.{ℕ, ◌+◌, ◌≤◌, ◌<◌}
use native.Mathlib.Omega.{arith}
use lib.ListN.{length}
use Rattle.node.specs.declared.Node.{Node}
use Rattle.node.specs.Matrix.{Matrix, width, IsPlan, chosen}
use Rattle.node.specs.Stored.{FitsNode}
use Rattle.node.specs.Node.{free_columns, free_of, taken, take, leave}
use Rattle.rules.specs.declared.Forced.{Forced}
use Rattle.rules.specs.Force.{force}
use Rattle.rules.specs.Tree.{Variant}
use Rattle.rules.specs.Identity.{Completion}
use Rattle.rules.proofs.Plans.{Open, Free, FreeIn, Sound, comp_same}
use Rattle.rules.proofs.Decide.{Decided}
use Rattle.rules.proofs.Rows.{size}
use Rattle.rules.proofs.Forcing.{TwoFree, Settles, force-settles}

-- an open row with free columns has one at cost 0
abbrev pub ZeroIn : Matrix → Variant → Node → Type 0
ZeroIn p o t = (i : ℕ) → Open p t i → 0 < length (free_of p t i) → (k : ℕ) × FreeIn p t i k × (o.present t k ≡ 0)

-- t is s reduced: the marks are as they were
pub record Lowered (p : Matrix) (o : Variant) (Good : Node → Type 0) (s t : Node) : Type 0 where
  pub good : Good t
  pub same_column : t.column ≡ s.column
  pub same_row : t.row ≡ s.row
  pub zero : ZeroIn p o t

-- the taken columns are allowed if they are a plan
abbrev pub TakenOk : Matrix → ((ℕ → Bool) → Type 0) → Node → Type 0
TakenOk p Ok t = IsPlan p (chosen (taken p t)) → Ok (chosen (taken p t))

-- r is s forced: only free columns are decided, no allowed completion is lost, and where the node lives on, each open row has two free columns
pub record Forces (p : Matrix) (Ok : (ℕ → Bool) → Type 0) (Good : Node → Type 0) (s : Node) (r : Forced) : Type 0 where
  pub good : Good r.node
  pub decides : (k : ℕ) → k < width p → Decided s r.node k
  pub comp : (X : ℕ → Bool) → Ok X → Completion p s X → (r.alive ≡ true) × Completion p r.node X
  pub two : r.alive ≡ true → TwoFree p r.node
  pub full : r.alive ≡ true → TakenOk p Ok r.node

-- What the steps of a search keep, of every node: forcing, taking and leaving a column, reducing.
pub record Stepping (p : Matrix) (o : Variant) (Ok : (ℕ → Bool) → Type 0) (Good : Node → Type 0) : Type 0 where
  pub sound : (s : Node) → Good s → Sound p s
  pub forcing : (s : Node) → Good s → Forces p Ok Good s (o.settle s)
  pub taking : (s : Node) (j : ℕ) → Free p s j → Good s → Good (take p s j (o.join s j))
  pub leaving : (s : Node) (j : ℕ) → Free p s j → Good s → Good (leave s j)
  pub reducing : (s : Node) → Good s → Lowered p o Good s (o.lowered s)

pub record Laws (p : Matrix) (o : Variant) (start : Forced) (Ok : (ℕ → Bool) → Type 0) (value : (ℕ → Bool) → ℕ) (Good : Node → Type 0) : Type 0 where
  pub steps : Stepping p o Ok Good
  pub start_good : start.alive ≡ true → Good start.node
  pub start_comp : (X : ℕ → Bool) → Ok X → (start.alive ≡ true) × Completion p start.node X
  -- the bound is not above a completion's value,
  pub low : (s : Node) → Good s → (X : ℕ → Bool) → Completion p s X → s.bound ≤ value X
  -- also with the cost of one of its free columns,
  pub above : (s : Node) → Good s → (X : ℕ → Bool) → Completion p s X
      → (k : ℕ) → Free p s k → X k ≡ true → s.bound + o.present s k ≤ value X
  -- and it is the value if there are none
  pub exact : (s : Node) → Good s → (X : ℕ → Bool) → Completion p s X
      → ((k : ℕ) → Free p s k → X k ≡ false) → value X ≡ s.bound

-- t stands for s: it is good, has no more free columns, and has every allowed completion of s
pub record Follows (p : Matrix) (Ok : (ℕ → Bool) → Type 0) (Good : Node → Type 0) (s t : Node) : Type 0 where
  pub good : Good t
  pub less : size p t ≤ size p s
  pub comp : (X : ℕ → Bool) → Ok X → Completion p s X → Completion p t X

-- what depends on the marks alone is as it was
module _ (p : Matrix) (o : Variant) (Good : Node → Type 0) (s t : Node) (l : Lowered p o Good s t) where
  pub lowered-size : size p t ≡ size p s
  unfolding free_columns
  lowered-size = rw l.same_column

  pub lowered_open : (i : ℕ) → Open p s i → Open p t i
  lowered_open i h = record { row = h.row; is_open_true = rw l.same_row h.is_open_true }

  pub lowered-two : TwoFree p s → TwoFree p t
  unfolding free_of free_columns
  lowered-two h i f = rw l.same_column (h i (record { row = f.row; is_open_true = rw l.same_row at f.is_open_true }))

  pub lowered_comp : (X : ℕ → Bool) → Completion p s X → Completion p t X
  lowered_comp = comp_same p s t l.same_column

  pub lowered_follows : (Ok : (ℕ → Bool) → Type 0) (r : Node) → Follows p Ok Good r s → Follows p Ok Good r t
  lowered_follows Ok r f = record {
    good = l.good;
    less = omega (arith, f.less, lowered-size);
    comp = λ X a c. lowered_comp X (f.comp X a c);
  }

-- forcing alone, where every plan is allowed
module _ (p : Matrix) (F : FitsNode p) (join : Node → ℕ → ℕ) (Good : Node → Type 0) (sound : (s : Node) → Good s → Sound p s)
    (taking : (s : Node) (j : ℕ) → Free p s j → Good s → Good (take p s j (join s j))) where
  pub plain_forces : (s : Node) → Good s → Forces p (IsPlan p) Good s (force join p s)
  plain_forces s g =
      let f : Settles p F join Good sound taking s (force join p s) = force-settles p F join Good sound taking s g in
      record { good = f.good; decides = f.decides; comp = λ X h. f.comp X; two = f.two; full = λ e h. h }
