-- Counting an offered list column by column, as the code does.
use Rattle.std.specs.Prelude.{ℕ, ◌+◌, ◌-◌, List, [], ◌∷◌, replicate, slice_index, slice_set}
use Rattle.node.specs.Matrix.{Matrix, body}

-- no row is covered
abbrev pub none_covered : List ℕ
none_covered = replicate 64 0

-- how often each row is covered, with the rows of one more body counted
unfoldable pub counted : List ℕ → List ℕ → List ℕ
counted [] c = c
counted (r ∷ rs) c = counted rs (slice_set c (r - 1) (slice_index c (r - 1) + 1))

-- with the bodies of a list of columns counted, numbered from 1
unfoldable pub counted_all : Matrix → List ℕ → List ℕ → List ℕ
counted_all p [] c = c
counted_all p (j ∷ js) c = counted_all p js (counted (body p (j - 1)) c)
