-- The table over the sets of used vessels: what the code fills and reads.
use Rattle.std.specs.Prelude.{◌≡◌, List, ℕ, ◌+◌, ◌-◌, ◌^◌, ◌%◌, ◌≤◌, ◌<◌, get_or}
use Rattle.assignments.specs.Sets.{no_total, offers, least_from, count, Priced}

-- what each vessel comes to, by a row of costs and a table over the sets
abbrev pub offers_in : List ℕ → List ℕ → ℕ → ℕ → ℕ
offers_in row d s = offers (λ j. get_or row j 0) (λ u. get_or d u 0) s

-- a table with no place above what stands for none
abbrev pub Low : List ℕ → Type 0
Low d = (u : ℕ) → get_or d u 0 ≤ no_total

-- one crew's costs, one set and the table
pub record Row (row : List ℕ) (n : ℕ) (d : List ℕ) (s : ℕ) : Type 0 where
  pub few : n ≤ 16
  pub set : s < 2 ^ n
  pub priced : (j : ℕ) → j < n → get_or row j 0 ≤ 1000000
  pub low : Low d

-- one vessel of it: with the vessel's weight, and the set without the vessels below it
pub record Reach (c : ℕ) (d : List ℕ) (s w rest : ℕ) : Type 0 where
  pub priced : c ≤ 1000000
  pub small : s + w ≤ 131072
  pub inside : rest % 2 ≡ 0 → s + w < 65536
  pub low : Low d

-- crews, vessels and costs that pass the tests
pub record Sized (t : List (List ℕ)) (m n : ℕ) : Type 0 where
  pub some : 0 < m
  pub fits : m ≤ n
  pub few : n ≤ 16
  pub priced : Priced t m n

-- the least total of the crews that are left, where the vessels in s are used: as many crews have theirs
unfoldable pub least_left : List (List ℕ) → ℕ → ℕ → ℕ → ℕ
least_left t m n s = least_from t n (m - count 16 s) (count 16 s) s

-- a table that holds it for each set from s on
pub record Filled (t : List (List ℕ)) (m n s : ℕ) (d : List ℕ) : Type 0 where
  pub at : (u : ℕ) → s ≤ u → u < 2 ^ n → get_or d u 0 ≡ least_left t m n u
  pub low : Low d
