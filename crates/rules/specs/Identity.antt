-- The identity (01: floor plus reduced prices equals price), stated of any node, whatever rows are open.
use Rattle.std.specs.Prelude.{◌≡◌, Bool, false, ◌&&◌, List, ℕ, ◌+◌, ◌<◌}
use Rattle.node.specs.declared.Node.{Node}
use Rattle.node.specs.Lists.{on, total}
use Rattle.node.specs.Matrix.{Matrix, width, IsPlan, price}
use Rattle.node.specs.Node.{is_free, is_taken, cost_at}

-- X is a plan that agrees with the node: it has the taken columns and, besides, free ones only
pub record Completion (p : Matrix) (s : Node) (X : ℕ → Bool) : Type 0 where
  pub plan : IsPlan p X
  pub agrees : (k : ℕ) → k < width p → is_free s k ≡ false → X k ≡ is_taken s k

-- a value of the columns, summed over the free columns of a choice
abbrev pub rest : Matrix → Node → (ℕ → Bool) → (ℕ → ℕ) → ℕ
rest p s X f = total (width p) (λ k. on (is_free s k && X k) (f k))

-- every plan that agrees with the node costs its lower bound and the present costs of its free columns
abbrev pub Identity : Matrix → List ℕ → Node → Type 0
Identity p costs s = (X : ℕ → Bool) → Completion p s X → price p costs X ≡ s.bound + rest p s X (cost_at s)
