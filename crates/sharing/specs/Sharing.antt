-- The columns that share a row with a column (01, The tree: C), as they are counted: row after row of its body.
use Rattle.std.specs.Prelude.{◌≡◌, Bool, true, false, ◌&&◌, ◌||◌, List, [], ◌∷◌, ℕ, ◌+◌, ◌<◌, length, get_or, ltb}
use Rattle.node.specs.Lists.{keep, member, upto}
use Rattle.node.specs.Matrix.{Matrix, columns, body}

-- two lists have a member in common
unfoldable pub common : List ℕ → List ℕ → Bool
common [] ys = false
common (x ∷ xs) ys = member x ys || common xs ys

-- how many columns pass a test and cover one of the rows given
abbrev pub sharing_in : Matrix → (ℕ → Bool) → List ℕ → ℕ
sharing_in p z rs = length (keep (λ k. z k && common rs (body p k)) (columns p))

-- column k is marked
abbrev pub is_seen : List ℕ → ℕ → Bool
is_seen seen k = ltb 0 (get_or seen k 0)

-- the columns of a list that pass a test are marked too, and count is how many more marks there are
pub record Counted (z : ℕ → Bool) (row before after : List ℕ) (count : ℕ) : Type 0 where
  pub long : length after ≡ length before
  pub seen : (k : ℕ) → is_seen after k ≡ (is_seen before k || (z k && member k row))
  pub counts : (n : ℕ) → ((k : ℕ) → member k row ≡ true → k < n) →
      count + length (keep (is_seen before) (upto n)) ≡ length (keep (is_seen after) (upto n))
