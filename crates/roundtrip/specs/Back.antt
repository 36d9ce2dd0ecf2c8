-- Demand 2 on the file, as what the two calls come to, one after the other: "A written file reads back as the same lists, and writing the lists
-- read from an accepted file gives its bytes."
use Rattle.std.specs.Prelude.{List, ℕ, length}
use Rattle.refusals.specs.Refusals.{◌then◌, Outcome, unless}
use Rattle.dutyfile.specs.declared.Shape.{Shape}
use Rattle.dutyfile.specs.File.{Lists, render, shape}
use Rattle.dutyfile.specs.Faults.{lists_fault, file_fault, room, rooms_fault}

-- the edition, m, n and t of given lists
unfoldable pub shape_of : Lists → Shape
shape_of d = record { edition = d.edition; rows = d.rows; columns = length d.costs; entries = length d.numbers }

-- Lists are written into a buffer of k places, and the file is read into lists of c, l and r places: it has the edition, m, n and t of the lists written.
-- Refused are lists that fail the writer's tests, a short buffer and short lists, and nothing else.
unfoldable pub read_back : Lists → ℕ → ℕ → ℕ → ℕ → Outcome Shape
read_back d k c l r = unless ((lists_fault d then room (length (render d)) k) then rooms_fault (shape_of d) c l r) (shape_of d)

-- A file is read into lists of c, l and r places, and what they hold then is written into a buffer of k places: it has the file's length.
-- Refused are files that fail the reader's tests, short lists and a short buffer, and nothing else.
unfoldable pub written_back : List ℕ → ℕ → ℕ → ℕ → ℕ → Outcome ℕ
written_back s c l r k = unless ((file_fault s then rooms_fault (shape s) c l r) then room (length s) k) (length s)
