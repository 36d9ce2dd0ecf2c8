-- The reducing call: its tests, its answer in 01's terms, and what its lists hold.
use Rattle.std.specs.Prelude.{List, map, ℕ, suc, ℤ, pos, length, take}
use Rattle.refusals.specs.Refusals.{Fault, ◌then◌, Outcome, unless}
use Rattle.node.specs.Matrix.{Instance}
use Rattle.node.specs.Node.{root}
use Rattle.rules.specs.Reduce as rules
use Rattle.dutyfile.specs.declared.Shape.{Shape}
use Rattle.dutyfile.specs.File.{parse, instance, shape}
use Rattle.dutyfile.specs.Faults.{file_fault, spp1_fault, room}
use Rattle.reduce.specs.declared.Bound.{Bound}

-- the file as it stands, reduced: all rows open, all columns free, bound 0
unfoldable pub reduced_root : List ℕ → rules.Reduced
reduced_root file = let p : Instance = instance (parse file) in rules.reduce p.matrix (root p.matrix p.costs)

unfoldable pub bound_of : List ℕ → Bound
bound_of file = record { bound = pos (reduced_root file).node.bound; used = length (reduced_root file).used }

-- n reduced costs (01: reduced prices)
unfoldable pub reduced_costs : List ℕ → List ℤ
reduced_costs file = map pos (take (shape file).columns (reduced_root file).node.cost)

-- the rows in the sequence used, numbered from 1
unfoldable pub used_rows : List ℕ → List ℕ
used_rows file = map suc (reduced_root file).used

-- 10: the lists hold n and m places at least
unfoldable pub lists_fault : Shape → ℕ → ℕ → Fault
lists_fault found c o = room found.columns c then room found.rows o

-- where the two lent lists hold c and o places: the tests of the file, then those of the lists
unfoldable pub reduce_fault : List ℕ → ℕ → ℕ → Fault
reduce_fault file c o = file_fault file then lists_fault (shape file) c o

-- reducing a file, which is of SPP1 (02, P10)
unfoldable pub reducing : List ℕ → ℕ → ℕ → Outcome Bound
reducing file c o = unless (spp1_fault file then reduce_fault file c o) (bound_of file)
