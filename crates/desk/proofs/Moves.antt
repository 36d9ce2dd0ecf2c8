-- A column put in or taken out, as the code changes the lent parts of a desk.
use mathlib.Core.Path.{◌≡◌}
use mathlib.Core.List.{List}
use Prim.Native.Nat.{ℕ}
use lib.IntN.{ℤ}
use lib.ListN.{set}
use Rattle.counts.specs.Counts.{counts_of, rows_moved}
use Rattle.desk.specs.declared.Way.{Way}
use Rattle.desk.specs.Desk.{desk_of, count_change, new_total, new_mark, moved}

pub moved-is : (way : Way) (j : ℕ) (body : List ℕ) (cost total next : ℤ) (marks covered later : List ℕ) (off left by mark : ℕ) →
    by ≡ count_change way → counts_of later left ≡ rows_moved by body (counts_of covered off) → next ≡ new_total way total cost → mark ≡ new_mark way →
    desk_of (set marks j mark) later left next ≡ moved way j body cost (desk_of marks covered off total)
unfolding moved
moved-is way j body cost total next marks covered later off left by mark b c t m = rw (m, t, c, b)
