-- The tests of a file and of the writer's lists, in 01's sequence, and what reader and writer come to (01, When a call declines).
use Rattle.std.specs.Prelude.{Bool, true, ◌&&◌, ◌||◌, List, [], ◌∷◌, ℕ, ◌+◌, eqb, leb, ltb, ℤ, pos, negsuc, length, take}
use Rattle.std.specs.Int.Signed.{le_z}
use Rattle.endian.specs.Bytes.{same}
use Rattle.refusals.specs.Refusals.{Fault, fine, ask, ◌then◌, Outcome, unless}
use Rattle.dutyfile.specs.declared.Edition.{Edition}
use Rattle.dutyfile.specs.declared.Edition.TheVariants.{Spp1, Spp2}
use Rattle.dutyfile.specs.declared.Entry.{Entry}
use Rattle.dutyfile.specs.declared.Shape.{Shape}
use Rattle.dutyfile.specs.File.{Lists, magic, edition_in, rows_in, columns_in, bodies_at, cost_of, entries, parse, render, sum, bodies, shape}

-- from low to high
abbrev pub within : ℕ → ℕ → ℕ → Bool
within low high x = leb low x && leb x high

-- rising: each number is above the one before, the first above low, and none is above high
unfoldable pub rising : ℕ → ℕ → List ℕ → Bool
rising low high [] = true
rising low high (x ∷ xs) = ltb low x && (leb x high && rising x high xs)

-- 2: m or n out of range
unfoldable pub counts_fault : ℕ → ℕ → Fault
counts_fault m n = ask (within 1 64 m) 2 then ask (within 1 256 n) 2

-- a cost: from 1 to 1,000,000, or for SPP2 from -1,000,000 (02, P10)
abbrev pub least_cost : Edition → ℤ
least_cost Spp1 = pos 1
least_cost Spp2 = negsuc 999999

abbrev pub is_cost : Edition → ℤ → Bool
is_cost ed c = le_z (least_cost ed) c && le_z c (pos 1000000)

-- 4, 5, 6 for a column with cost c and l rows, where the columns before it have t rows in all
unfoldable pub column_fault : Edition → ℕ → ℕ → ℤ → ℕ → Fault
column_fault ed m t c l =
    ask (is_cost ed c) 4
    then ask (within 1 m l) 5
    then ask (leb (t + l) 4096) 6

-- 4, 5, 6, 7 for an entry: its body starts where the former ends
unfoldable pub entry_fault : Edition → ℕ → ℕ → ℕ → Entry → Fault
entry_fault ed m n t e =
    column_fault ed m t (cost_of e) e.size
    then ask (eqb e.start (bodies_at n + t)) 7

-- entry by entry
unfoldable pub entries_fault : Edition → ℕ → ℕ → ℕ → List Entry → Fault
entries_fault ed m n t [] = fine
entries_fault ed m n t (e ∷ es) = entry_fault ed m n t e then entries_fault ed m n (t + e.size) es

-- column by column
unfoldable pub columns_fault : Edition → ℕ → ℕ → List ℤ → List ℕ → Fault
columns_fault ed m t [] ls = fine
columns_fault ed m t (c ∷ cs) [] = fine
columns_fault ed m t (c ∷ cs) (l ∷ ls) = column_fault ed m t c l then columns_fault ed m (t + l) cs ls

-- 9, body by body: each row number is from 1 to m, rising
unfoldable pub bodies_fault : ℕ → List (List ℕ) → Fault
bodies_fault m [] = fine
bodies_fault m (b ∷ bs) = ask (rising 0 m b) 9 then bodies_fault m bs

-- 1, 2, 3
unfoldable pub header_fault : List ℕ → Fault
header_fault s =
    ask (leb 8 (length s)) 1
    then ask (same (take 4 s) (magic Spp1) || same (take 4 s) (magic Spp2)) 1
    then counts_fault (rows_in s) (columns_in s)
    then ask (leb (bodies_at (columns_in s)) (length s)) 3

-- 4, 5, 6, 7 column by column
unfoldable pub contents_fault : List ℕ → Fault
contents_fault s = entries_fault (edition_in s) (rows_in s) (columns_in s) 0 (entries s)

-- 8: the file ends with the last body
unfoldable pub end_fault : List ℕ → Fault
end_fault s = ask (eqb (length s) (bodies_at (columns_in s) + sum (parse s).lengths)) 8

-- 9 body by body
unfoldable pub rows_fault : List ℕ → Fault
rows_fault s = bodies_fault (rows_in s) (bodies (parse s).lengths (parse s).numbers)

-- a file: 1, 2, 3; then 4, 5, 6, 7 column by column; then 8; then 9 body by body
unfoldable pub file_fault : List ℕ → Fault
file_fault s =
    header_fault s
    then contents_fault s
    then end_fault s
    then rows_fault s

-- 1 for any file that does not begin with SPP1, before all other tests: for the calls that take SPP1 alone (02, P10)
unfoldable pub spp1_fault : List ℕ → Fault
spp1_fault s = ask (same (take 4 s) (magic Spp1)) 1

-- 13 for the row numbers against t; 9
unfoldable pub numbers_fault : ℕ → List ℕ → List ℕ → Fault
numbers_fault m lengths numbers =
    ask (eqb (length numbers) (sum lengths)) 13
    then bodies_fault m (bodies lengths numbers)

-- the writer's lists: 2; 13; 4, 5, 6 column by column; 13; 9
unfoldable pub lists_fault : Lists → Fault
lists_fault d =
    counts_fault d.rows (length d.costs)
    then ask (eqb (length d.lengths) (length d.costs)) 13
    then columns_fault d.edition d.rows 0 d.costs d.lengths
    then numbers_fault d.rows d.lengths d.numbers

-- 10: a lent list that holds fewer places than it must
abbrev pub room : ℕ → ℕ → Fault
room needed places = ask (leb needed places) 10

-- the reader's lists hold n, n and t places at least
unfoldable pub rooms_fault : Shape → ℕ → ℕ → ℕ → Fault
rooms_fault found c l r = room found.columns c then room found.columns l then room found.entries r

-- reading a file, where the three lent lists hold c, l and r places
unfoldable pub reading : List ℕ → ℕ → ℕ → ℕ → Outcome Shape
reading s c l r = unless (file_fault s then rooms_fault (shape s) c l r) (shape s)

-- writing lists, where the lent buffer holds k places: the file's length
unfoldable pub writing : Lists → ℕ → Outcome ℕ
writing d k = unless (lists_fault d then room (length (render d)) k) (length (render d))
