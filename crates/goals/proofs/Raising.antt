-- The bound raised by one pass over the open rows, and a row's least cost by one pass over its columns.
use mathlib.Core.Path.{◌≡◌, refl, ap, sym, ◌∙◌}
use mathlib.Core.Bool.{true}
use mathlib.Core.List.{List, [], ◌∷◌, ◌++◌}
use Prim.Native.Nat.{ℕ, ◌+◌, ◌≤◌, ◌<◌, max, min}
use native.Mathlib.Omega.{arith}
use lib.ListN.{length, get_or}
use lib.Dec.{eqb}
use borrow.Author.Tests.{eq-eqb}
use Rattle.std.proofs.Common.{Option, Some, None, MatchOption, unwrap_or}
use Rattle.node.specs.declared.Node.{Node}
use Rattle.node.specs.Lists.{keep, member, least, least_from}
use Rattle.node.specs.Matrix.{Matrix}
use Rattle.node.specs.Node.{cost_at, open_rows}
use Rattle.node.specs.View.{node_of}
use Rattle.node.specs.Stored.{matrix_in, Kept, row_columns}
use Rattle.node.specs.Passes.{carry}
use Rattle.rules.specs.Reduce.{least_of}
use Rattle.rules.specs.Longest.{largest, raised}
use Rattle.node.proofs.Members.{member-at, member-keep, least_le}
use Rattle.node.proofs.Loops.{least_append}
use Rattle.node.proofs.Parts.{free-row}
use Rattle.node.proofs.Passes.{Passing, passing_start, passing_open}
use Rattle.goals.specs.Raising.{least_in}

-- the larger of a value and the largest, as a pass
carry-largest : (f : ℕ → ℕ) (a : ℕ) (xs : List ℕ) → carry (λ b i. max b (f i)) a xs ≡ max a (largest f xs)
unfolding carry largest
carry-largest f a [] = omega arith
carry-largest f a (x ∷ xs) = omega (arith, carry-largest f (max a (f x)) xs)

-- a row's least cost, by its columns
least-row : (p : Matrix) (s : Node) (i : ℕ) → least_in s.cost s.column (row_columns p i) ≡ least_of p s i
unfolding least_of
least-row p s i = ap (least (cost_at s)) (sym (free-row p s i))

-- at row i of a pass over the open rows
abbrev pub Raising : List ℕ → Node → ℕ → ℕ → ℕ → Type 0
Raising l s = Passing (λ b i. max b (least_of (matrix_in l) s i)) (raised (matrix_in l) s).bound l s

pub raising_start : (l : List ℕ) (s : Node) (rows : ℕ) → Kept l → rows ≡ (matrix_in l).rows → Raising l s rows s.bound 0
unfolding raised
raising_start l s rows k e =
    passing_start _ _ l s rows s.bound k e (carry-largest (least_of (matrix_in l) s) s.bound (open_rows (matrix_in l) s))

pub raising_open : (l : List ℕ) (s : Node) (rows best i : ℕ) → Raising l s rows best i → i < rows → get_or s.row i 0 ≡ 1
    → (js : List ℕ) → js ≡ row_columns (matrix_in l) i → (next : ℕ) → next ≡ max best (least_in s.cost s.column js)
    → Raising l s rows next (i + 1)
raising_open l s rows best i w h o js is next e =
    passing_open w h o next (e ∙ ap (max best) (rw is (least-row (matrix_in l) s i)))

-- the node with its bound raised
pub raised_is : (p : Matrix) (s : Node) (b : ℕ) → b ≡ (raised p s).bound → node_of s.cost s.column s.row b ≡ raised p s
unfolding raised
raised_is p s b e = rw e

-- the least value of a list that has an element; with one more element
abbrev pub told : (ℕ → ℕ) → List ℕ → Option ℕ
told f [] = None
told f (j ∷ js) = Some (least_from f j js)

abbrev pub more : (ℕ → ℕ) → Option ℕ → ℕ → Option ℕ
more f None j = Some (f j)
more f (Some b) j = Some (min b (f j))

pub more_is : (f : ℕ → ℕ) (a : Option ℕ) (j next : ℕ) → MatchOption a (next ≡ f j) (λ b. next ≡ min b (f j)) → Some next ≡ more f a j
more_is f None j next e = ap Some e
more_is f (Some b) j next e = ap Some e

pub told_more : (f : ℕ → ℕ) (js : List ℕ) (j : ℕ) → more f (told f js) j ≡ told f (js ++ (j ∷ []))
unfolding least least_from
told_more f [] j = refl
told_more f (i ∷ is) j = ap Some (sym (least_append f i is j))

pub told_least : (f : ℕ → ℕ) (js : List ℕ) → unwrap_or (told f js) 0 ≡ least f js
unfolding least
told_least f [] = refl
told_least f (j ∷ js) = refl

-- a free column that costs no more than the bound
pub raise_ends : (cost column js : List ℕ) (b k : ℕ) → k < length js → get_or column (get_or js k 0) 0 ≡ 1 → get_or cost (get_or js k 0) 0 ≤ b
    → b ≡ max b (least_in cost column js)
raise_ends cost column js b k l h c =
    let j : ℕ = get_or js k 0 in
    let m : member j (keep (λ j. eqb (get_or column j 0) 1) js) ≡ true =
    rw (member-keep (λ j. eqb (get_or column j 0) 1) j js, eq-eqb (get_or column j 0) 1 h) (member-at js k l) in
    omega (arith, least_le (λ j. get_or cost j 0) (keep (λ j. eqb (get_or column j 0) 1) js) j m)
