-- What the program prints for a duty file (01, The program and the plan check).
use Rattle.std.specs.Prelude.{List, ℕ}
use Rattle.line.specs.Line.{line_of}
use Rattle.search.specs.Searching.{searching}

-- the line of a search with node limit (01: allowance) 1,000,000, and 64 places for the plan, which are enough for any accepted file
unfoldable pub program_line : List ℕ → List ℕ
program_line file = line_of (searching file 1000000 64)
