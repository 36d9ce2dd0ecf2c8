-- The running plan on the desk (02, P7): a desk of any numbers, a column that goes in or out, and the reply.
use Rattle.std.specs.Prelude.{Bool, not, cond, List, ℕ, eqb, ℤ, pos, set, replicate, Option, Some, None}
use Rattle.signed.specs.Signed.{sum32, difference32}
use Rattle.counts.specs.Counts.{Counts, counts_of, more, less, rows_moved}
use Rattle.desk.specs.declared.Way.{Way}
use Rattle.desk.specs.declared.Way.TheVariants.{Adding, Removing}

pub record Desk : Type 0 where
  pub marks : List ℕ  -- for each column 0, or another number where it is in
  pub counts : Counts  -- how often each row is covered, and how many rows are not covered exactly once
  pub total : ℤ  -- what the columns cost (02: the total price)

-- the desk whose parts are lent
abbrev pub desk_of : List ℕ → List ℕ → ℕ → ℤ → Desk
desk_of m c o t = record { marks = m; counts = counts_of c o; total = t }

-- the empty desk of a file with m rows: no column is in, and no row is covered
unfoldable pub empty_desk : ℕ → Desk
empty_desk m = desk_of (replicate 256 0) (replicate 64 0) m (pos 0)

-- whether a step changes a desk on which its column has this mark
unfoldable pub changes : Way → ℕ → Bool
changes Adding mark = eqb mark 0
changes Removing mark = not (eqb mark 0)

-- what a step adds to the count of each row of its column; the total after it; the mark of its column after it
unfoldable pub count_change : Way → ℕ
count_change Adding = more
count_change Removing = less

unfoldable pub new_total : Way → ℤ → ℤ → ℤ
new_total Adding total cost = sum32 total cost
new_total Removing total cost = difference32 total cost

unfoldable pub new_mark : Way → ℕ
new_mark Adding = 1
new_mark Removing = 0

-- column j, with its body and its cost, put in or taken out: the counts change by its rows and the total by its cost alone
unfoldable pub moved : Way → ℕ → List ℕ → ℤ → Desk → Desk
moved way j body cost d = record {
  marks = set d.marks j (new_mark way);
  counts = rows_moved (count_change way) body d.counts;
  total = new_total way d.total cost;
}

-- a plan's cost where no row is off, else no plan; answered from these two numbers alone
unfoldable pub replying : ℕ → ℤ → Option ℤ
replying off total = cond (eqb off 0) (Some total) None
