-- The tests of a file and of the writer's lists as they were before SPP2. What did not change is that of crates/dutyfile.
use Rattle.std.specs.Prelude.{List, [], ◌∷◌, ℕ, ◌+◌, eqb, leb, length, take}
use Rattle.endian.specs.Bytes.{same}
use Rattle.refusals.specs.Refusals.{Fault, fine, ask, ◌then◌}
use Rattle.dutyfile.specs.declared.Entry.{Entry}
use Rattle.dutyfile.specs.File.{rows_in, columns_in, bodies_at, entries, sum, bodies}
use Rattle.dutyfile.specs.Faults.{within, counts_fault, bodies_fault, numbers_fault}
use Rattle.former.specs.File.{former_magic, FormerLists, former_parse}

-- 4, 5, 6 for a column with cost c and l rows, where the columns before it have t rows in all
unfoldable pub former_column_fault : ℕ → ℕ → ℕ → ℕ → Fault
former_column_fault m t c l =
    ask (within 1 1000000 c) 4
    then ask (within 1 m l) 5
    then ask (leb (t + l) 4096) 6

-- 4, 5, 6, 7 for an entry: its body starts where the former ends
unfoldable pub former_entry_fault : ℕ → ℕ → ℕ → Entry → Fault
former_entry_fault m n t e =
    former_column_fault m t e.cost e.size
    then ask (eqb e.start (bodies_at n + t)) 7

-- entry by entry
unfoldable pub former_entries_fault : ℕ → ℕ → ℕ → List Entry → Fault
former_entries_fault m n t [] = fine
former_entries_fault m n t (e ∷ es) = former_entry_fault m n t e then former_entries_fault m n (t + e.size) es

-- column by column
unfoldable pub former_columns_fault : ℕ → ℕ → List ℕ → List ℕ → Fault
former_columns_fault m t [] ls = fine
former_columns_fault m t (c ∷ cs) [] = fine
former_columns_fault m t (c ∷ cs) (l ∷ ls) = former_column_fault m t c l then former_columns_fault m (t + l) cs ls

-- 1, 2, 3
unfoldable pub former_header_fault : List ℕ → Fault
former_header_fault s =
    ask (leb 8 (length s)) 1
    then ask (same (take 4 s) former_magic) 1
    then counts_fault (rows_in s) (columns_in s)
    then ask (leb (bodies_at (columns_in s)) (length s)) 3

-- 4, 5, 6, 7 column by column
unfoldable pub former_contents_fault : List ℕ → Fault
former_contents_fault s = former_entries_fault (rows_in s) (columns_in s) 0 (entries s)

-- 8: the file ends with the last body
unfoldable pub former_end_fault : List ℕ → Fault
former_end_fault s = ask (eqb (length s) (bodies_at (columns_in s) + sum (former_parse s).lengths)) 8

-- 9 body by body
unfoldable pub former_rows_fault : List ℕ → Fault
former_rows_fault s = bodies_fault (rows_in s) (bodies (former_parse s).lengths (former_parse s).numbers)

-- a file: 1, 2, 3; then 4, 5, 6, 7 column by column; then 8; then 9 body by body
unfoldable pub former_file_fault : List ℕ → Fault
former_file_fault s =
    former_header_fault s
    then former_contents_fault s
    then former_end_fault s
    then former_rows_fault s

-- the writer's lists: 2; 13; 4, 5, 6 column by column; 13; 9
unfoldable pub former_lists_fault : FormerLists → Fault
former_lists_fault d =
    counts_fault d.rows (length d.costs)
    then ask (eqb (length d.lengths) (length d.costs)) 13
    then former_columns_fault d.rows 0 d.costs d.lengths
    then numbers_fault d.rows d.lengths d.numbers
