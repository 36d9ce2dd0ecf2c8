-- A set partitioning instance: a 0-1 matrix, and a cost for each column. Rows and columns are indexed from 0; a body holds row numbers
-- from 1, as the file does.
use Rattle.std.specs.Prelude.{◌≡◌, Bool, not, ◌&&◌, List, [], ℕ, suc, ◌<◌, ℤ, pos, length, get_or}
use Rattle.node.specs.Lists.{member, keep, upto, is_empty, on, total, on_z, total_z}

-- m rows, and for each of n columns its body (01: sailings, and the sailings of each duty)
pub record Matrix : Type 0 where
  pub rows : ℕ
  pub bodies : List (List ℕ)

-- with a cost for each column (01: prices)
pub record Instance : Type 0 where
  pub matrix : Matrix
  pub costs : List ℕ

-- how many columns there are
abbrev pub width : Matrix → ℕ
width p = length p.bodies

abbrev pub columns : Matrix → List ℕ
columns p = upto (width p)

-- the rows that column j covers, and how many they are
abbrev pub body : Matrix → ℕ → List ℕ
body p j = get_or p.bodies j []

abbrev pub span : Matrix → ℕ → ℕ
span p j = length (body p j)

unfoldable pub covers : Matrix → ℕ → ℕ → Bool
covers p i j = member (suc i) (body p j)

-- the columns share a row
unfoldable pub meets : Matrix → ℕ → ℕ → Bool
meets p j k = not (is_empty (keep (λ i. covers p i j && covers p i k) (upto p.rows)))

-- A choice is any function from columns to Bool: how many of its columns cover row i, what it costs, and whether it is a plan.
unfoldable pub count : Matrix → ℕ → (ℕ → Bool) → ℕ
count p i X = total (width p) (λ j. on (X j) (on (covers p i j) 1))

unfoldable pub price : Matrix → List ℕ → (ℕ → Bool) → ℕ
price p costs X = total (width p) (λ j. on (X j) (get_or costs j 0))

-- what it costs where costs may be below 0 (02, P10)
unfoldable pub signed_price : Matrix → List ℤ → (ℕ → Bool) → ℤ
signed_price p costs X = total_z (width p) (λ j. on_z (X j) (get_or costs j (pos 0)))

abbrev pub IsPlan : Matrix → (ℕ → Bool) → Type 0
IsPlan p X = (i : ℕ) → i < p.rows → count p i X ≡ 1

-- the choice that a list of column numbers, counted from 1, names
abbrev pub named : List ℕ → ℕ → Bool
named js j = member (suc j) js

-- A list of columns: the choice that it is, and whether it shows an allowed choice of value c, rising and with columns of the
-- matrix only.
abbrev pub chosen : List ℕ → ℕ → Bool
chosen js j = member j js

pub record Shows {A : Type 0} (p : Matrix) (Ok : (ℕ → Bool) → Type 0) (value : (ℕ → Bool) → A) (c : A) (js : List ℕ) : Type 0 where
  pub listed : keep (chosen js) (columns p) ≡ js
  pub ok : Ok (chosen js)
  pub priced : value (chosen js) ≡ c
