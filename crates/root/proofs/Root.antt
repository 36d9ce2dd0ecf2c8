-- The root's tables: ones at the front of zeros are the marks of the first rows or columns.
use mathlib.Core.Path.{◌≡◌, refl, ap, ◌∙◌}
use mathlib.Core.Bool.{Bool, true, false}
use mathlib.Core.List.{List, ◌++◌}
use Prim.Native.Nat.{ℕ, ◌≤◌}
use native.Mathlib.Omega.{arith}
use lib.ListN.{length, take, drop, length-take, get_or, replicate, length-replicate, get_or-replicate, get_or-eq_default}
use lib.Dec.{ltb}
use borrow.Author.Tests.{ltb-true, ltb-false}
use Rattle.node.specs.Lists.{on, table}
use Rattle.node.proofs.Loops.{table_ext, zeros-after}
use Rattle.node.specs.declared.Node.{Node}
use Rattle.node.specs.Matrix.{Matrix, width}
use Rattle.node.specs.Stored.{FitsNode}
use Rattle.node.specs.Node.{root}
use Rattle.root.specs.Ones.{ones}

ones-at : (n k : ℕ) → get_or (replicate n 1) k 0 ≡ on (ltb k n) 1
ones-at n k = go (ltb k n) refl
  where
    go : (b : Bool) → ltb k n ≡ b → get_or (replicate n 1) k 0 ≡ on b 1
    go true e = get_or-replicate n k 1 0 (ltb-true k n e)
    go false e =
        let i : length {A = ℕ} (replicate n 1) ≤ k = rw (length-replicate {A = ℕ} n 1) (ltb-false k n e) in
        get_or-eq_default (replicate n 1) 0 i

ones-table : (n m : ℕ) → n ≤ m → ones n (replicate m 0) ≡ table m (λ j. on (ltb j n) 1)
ones-table n m h =
    let z : ones n (replicate m 0) ≡ table m (λ j. get_or (replicate n 1) j 0) =
    rw (length-replicate {A = ℕ} n 1) at (zeros-after (replicate n 1) m (rw (length-replicate {A = ℕ} n 1) h)) in
    z ∙ simp (ones-at n)

-- zeros of which the first are filled with ones
pub filled : (front : List ℕ) (m n k : ℕ) → n ≤ m → k ≡ n → front ≡ replicate (length {A = ℕ} (take k (replicate m 0))) 1 →
    front ++ drop k (replicate m 0) ≡ ones n (replicate m 0)
filled front m n k h i e =
    let l : length {A = ℕ} (take k (replicate m 0)) ≡ n = simp (length-take, length-replicate) (omega arith) in
    rw (e, l, i)

pub root_is : (p : Matrix) (costs column row : List ℕ) → FitsNode p → length costs ≡ 256 → column ≡ ones (width p) (replicate 256 0) →
    row ≡ ones p.rows (replicate 64 0) → record { cost = costs; column = column; row = row; bound = 0 } ≡ root p costs
unfolding root
root_is p costs column row f h c r =
    let e : costs ≡ table 256 (λ j. get_or costs j 0) = table_ext 256 (λ j. get_or costs j 0) costs h (λ k l. refl) in
    rw (c, r, ones-table (width p) 256 f.wide, ones-table p.rows 64 f.tall) (ap build e)
  where
    build : List ℕ → Node
    build cs = record {
      cost = cs;
      column = table 256 (λ j. on (ltb j (width p)) 1);
      row = table 64 (λ i. on (ltb i p.rows) 1);
      bound = 0;
    }
