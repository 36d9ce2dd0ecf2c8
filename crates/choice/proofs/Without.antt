-- The bound of the branch without the column: only a row with just one column at cost 0 adds its penalty, and the penalty that is above any
-- number adds nothing, as its number 0 does.
use mathlib.Core.Path.{◌≡◌, refl}
use mathlib.Core.Bool.{cond}
use mathlib.Core.List.{List, [], ◌∷◌}
use Prim.Native.Nat.{ℕ, ◌+◌}
use native.Mathlib.Nat.{add-zero}
use native.Mathlib.Omega.{arith}
use lib.ListN.{length}
use lib.Dec.{eqb}
use borrow.Author.Tests.{ne_eqb}
use Rattle.node.specs.declared.Node.{Node}
use Rattle.node.specs.Matrix.{Matrix}
use Rattle.rules.specs.Tree.{sum, Penalty, just, most, plus, zeros, penalty, without_bound}
use Rattle.choice.specs.Row.{amount, branch_row, bound_without}

plus-is : (b : ℕ) (q : Penalty) → b + amount q ≡ plus b q
unfolding plus amount
plus-is b (just c) = refl
plus-is b most = add-zero b

by-zeros : (b : ℕ) (js : List ℕ) (q : Penalty) → cond (eqb (length js) 1) (b + amount q) b ≡ without_bound b js q
unfolding without_bound
by-zeros b [] q = refl
by-zeros b (j ∷ []) q = plus-is b q
by-zeros b (j ∷ (k ∷ ks)) q = rw (ne_eqb (length (j ∷ (k ∷ ks))) 1 (λ e. omega arith))

pub without_is : (p : Matrix) (s : Node) (b i : ℕ) →
    bound_without b (branch_row p s i) ≡ without_bound b (zeros (sum p) p s i) (penalty (sum p) p s i)
unfolding bound_without branch_row
without_is p s b i = by-zeros b (zeros (sum p) p s i) (penalty (sum p) p s i)
