-- The duty file's layout, the lists that it holds, and the file of given lists (01, The duty file; 02, P10).
use Rattle.std.specs.Prelude.{cond, List, [], ◌∷◌, ◌++◌, map, ℕ, zero, suc, ◌+◌, ◌*◌, ℤ, pos, nat_abs, ◌+ℤ◌, length, take, drop}
use Rattle.endian.specs.Bytes.{same, at16, at32, bytes16, bytes32}
use Rattle.signed.specs.Signed.{signed, bits}
use Rattle.node.specs.Matrix.{Instance}
use Rattle.dutyfile.specs.declared.Edition.{Edition}
use Rattle.dutyfile.specs.declared.Edition.TheVariants.{Spp1, Spp2}
use Rattle.dutyfile.specs.declared.Entry.{Entry}
use Rattle.dutyfile.specs.declared.Shape.{Shape}

-- the ASCII digit 1, or 2
abbrev pub edition_digit : Edition → ℕ
edition_digit Spp1 = 49
edition_digit Spp2 = 50

-- the four ASCII bytes SPP1, or SPP2
abbrev pub magic : Edition → List ℕ
magic ed = 83 ∷ 80 ∷ 80 ∷ edition_digit ed ∷ []

-- the edition of a file that begins with either
unfoldable pub edition_in : List ℕ → Edition
edition_in s = cond (same (take 4 s) (magic Spp2)) Spp2 Spp1

-- bytes 4-5: the number of rows (01: sailings, m); bytes 6-7: the number of columns (duties, n)
abbrev pub rows_in : List ℕ → ℕ
rows_in s = at16 s 4

abbrev pub columns_in : List ℕ → ℕ
columns_in s = at16 s 6

-- where the first body starts, after n contents entries of 8 bytes
abbrev pub bodies_at : ℕ → ℕ
bodies_at n = 8 + 8 * n

-- the entry at the front of a list of bytes: the 32 bits of the cost (01: price), the start of the body, and the number of rows in the body
abbrev pub entry_of : List ℕ → Entry
entry_of b = record { cost = at32 b 0; start = at16 b 4; size = at16 b 6 }

-- n entries, one after another
unfoldable pub entries_of : ℕ → List ℕ → List Entry
entries_of zero b = []
entries_of (suc n) b = entry_of b ∷ entries_of n (drop 8 b)

-- the contents of a file
unfoldable pub entries : List ℕ → List Entry
entries s = entries_of (columns_in s) (drop 8 s)

-- in two's complement
abbrev pub cost_of : Entry → ℤ
cost_of e = signed e.cost

abbrev pub size_of : Entry → ℕ
size_of e = e.size

-- the lists of a file: each column's cost and body length, and the row numbers of all bodies in column order
pub record Lists : Type 0 where
  pub edition : Edition
  pub rows : ℕ
  pub costs : List ℤ
  pub lengths : List ℕ
  pub numbers : List ℕ

abbrev pub lists : Edition → ℕ → List ℤ → List ℕ → List ℕ → Lists
lists ed m costs lengths numbers = record { edition = ed; rows = m; costs = costs; lengths = lengths; numbers = numbers }

-- the lists that a file holds
unfoldable pub parse : List ℕ → Lists
parse s = record {
  edition = edition_in s;
  rows = rows_in s;
  costs = map cost_of (entries s);
  lengths = map size_of (entries s);
  numbers = drop (bodies_at (columns_in s)) s;
}

-- the 8 bytes of an entry
abbrev pub entry_bytes : ℤ → ℕ → ℕ → List ℕ
entry_bytes c at l = bytes32 (bits c) ++ bytes16 at ++ bytes16 l

-- the contents for given costs and body lengths, with the first body at a place
unfoldable pub contents : ℕ → List ℤ → List ℕ → List ℕ
contents at [] ls = []
contents at (c ∷ cs) [] = []
contents at (c ∷ cs) (l ∷ ls) = entry_bytes c at l ++ contents (at + l) cs ls

-- the first 8 bytes
unfoldable pub header : Edition → ℕ → ℕ → List ℕ
header ed m n = magic ed ++ bytes16 m ++ bytes16 n

-- the file of given lists
unfoldable pub render : Lists → List ℕ
render d =
    let n : ℕ = length d.costs in
    header d.edition d.rows n ++ contents (bodies_at n) d.costs d.lengths ++ d.numbers

unfoldable pub sum : List ℕ → ℕ
sum [] = 0
sum (x ∷ xs) = x + sum xs

-- the bodies: the row numbers parted by the body lengths
unfoldable pub bodies : List ℕ → List ℕ → List (List ℕ)
bodies [] rs = []
bodies (l ∷ ls) rs = take l rs ∷ bodies ls (drop l rs)

-- what a search of SPP2 adds for so many rows: 1,000,000 for each (02, P10); nothing for SPP1
unfoldable pub shift : Edition → ℕ → ℕ
shift Spp1 rows = 0
shift Spp2 rows = 1000000 * rows

-- what that comes to for every plan of a file
abbrev pub added : List ℕ → ℕ
added s = shift (edition_in s) (rows_in s)

-- the cost that a search then gives a column, never below 0
unfoldable pub raised : Edition → ℤ → ℕ → ℕ
raised ed c l = nat_abs (c +ℤ pos (shift ed l))

unfoldable pub raised_all : Edition → List ℤ → List ℕ → List ℕ
raised_all ed [] ls = []
raised_all ed (c ∷ cs) [] = []
raised_all ed (c ∷ cs) (l ∷ ls) = raised ed c l ∷ raised_all ed cs ls

-- the set partitioning instance that lists state, with the costs of a search
unfoldable pub instance : Lists → Instance
instance d = record {
  matrix = record { rows = d.rows; bodies = bodies d.lengths d.numbers };
  costs = raised_all d.edition d.costs d.lengths;
}

-- what the reader gives: the edition, rows m, columns n, and row numbers t in all
unfoldable pub shape : List ℕ → Shape
shape s = record { edition = edition_in s; rows = rows_in s; columns = columns_in s; entries = sum (parse s).lengths }
