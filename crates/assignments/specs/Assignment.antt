-- Crews onto vessels (02, P5): what an assignment is, and which one is asked for. Crews and vessels are counted from 0 here; a list that
-- shows an assignment counts vessels from 1.
use Rattle.std.specs.Prelude.{◌≡◌, List, [], ℕ, zero, suc, ◌+◌, ◌-◌, ◌≤◌, ◌<◌, get_or}

-- the cost (02: price) of crew i on vessel j, in a table of rows; 0 marks a closed pairing
abbrev pub cost : List (List ℕ) → ℕ → ℕ → ℕ
cost t i j = get_or (get_or t i []) j 0

-- an assignment of m crews to n vessels over open pairings: any function from crews to vessels that gives each crew an open one, and no
-- vessel to two crews
pub record Assignment (t : List (List ℕ)) (m n : ℕ) (f : ℕ → ℕ) : Type 0 where
  pub inside : (i : ℕ) → i < m → f i < n
  pub open_pairing : (i : ℕ) → i < m → 0 < cost t i (f i)
  pub apart : (i k : ℕ) → i < m → k < m → f i ≡ f k → i ≡ k

-- the total of the k crews from crew i on, and of all m
unfoldable pub total_from : List (List ℕ) → (ℕ → ℕ) → ℕ → ℕ → ℕ
total_from t f zero i = 0
total_from t f (suc k) i = cost t i (f i) + total_from t f k (suc i)

abbrev pub total : List (List ℕ) → ℕ → (ℕ → ℕ) → ℕ
total t m f = total_from t f m 0

-- read crew by crew, the vessel numbers of f come before those of g
pub record Before (m : ℕ) (f g : ℕ → ℕ) : Type 0 where
  pub crew : ℕ
  pub within : crew < m
  pub lower : f crew < g crew
  pub same : (i : ℕ) → i < crew → f i ≡ g i

-- the assignment asked for, and its total: no assignment costs less, and of those that cost the same none comes before it
pub record Best (t : List (List ℕ)) (m n : ℕ) (f : ℕ → ℕ) (x : ℕ) : Type 0 where
  pub assignment : Assignment t m n f
  pub priced : total t m f ≡ x
  pub least : (g : ℕ → ℕ) → Assignment t m n g → x ≤ total t m g
  pub first : (g : ℕ → ℕ) → Assignment t m n g → total t m g ≡ x → Before m g f → ⊥

-- the assignment that a list shows, in which vessels are counted from 1
abbrev pub shown : List ℕ → ℕ → ℕ
shown xs i = get_or xs i 0 - 1
