-- The matrix of an accepted file is small, since the file's tests bound its numbers; and it is the one that the file's lists state.
use mathlib.Core.Path.{◌≡◌, refl, sym, ap, ◌∙◌}
use mathlib.Core.Bool.{true, false≢true}
use mathlib.Core.List.{List, [], ◌∷◌}
use mathlib.Core.Logic.{⊎_elim}
use Prim.Native.Nat.{ℕ, ◌≤◌, ◌<◌}
use native.Mathlib.Omega.{arith}
use lib.IntN.{pos, ◌+ℤ◌}
use lib.ListN.{length, get_or, take, drop, length-map, length-take, length-drop}
use borrow.Author.Tests.{ltb-true, leb-true}
use Rattle.node.specs.Lists.{member}
use Rattle.node.specs.Matrix.{Matrix, width, body, span}
use Rattle.node.proofs.Members.{member-cases, and_both}
use Rattle.dutyfile.specs.declared.Entry.{Entry}
use Rattle.dutyfile.specs.File.{edition_in, rows_in, columns_in, bodies_at, entry_of, entries, cost_of, size_of, parse, sum, shift, raised, instance, shape}
use Rattle.dutyfile.specs.Faults.{rising, contents_fault, rows_fault}
use Rattle.dutyfile.proofs.Entries.{length-entries, length-costs}
use Rattle.dutyfile.proofs.Rising.{bodies-rise}
use Rattle.dutyfile.proofs.Costs.{raised_is, raised-most, raised_long, raised_at}
use Rattle.dutyfile.proofs.Facts.{Accepted, contents-small, length-numbers}
use Rattle.dutyfile.proofs.Columns.{length-bodies, ColumnAt, column-at}
use Rattle.node.specs.Stored.{Small}
use Rattle.raising.specs.Priced.{AllPriced}
use Rattle.matrix.specs.Stated.{stated, Statable}
use Rattle.matrix.proofs.Sums.{total_size, bodies-size}

-- numbers that rise within bounds are within them
rising-member : (low high : ℕ) (xs : List ℕ) (r : ℕ) → rising low high xs ≡ true → member r xs ≡ true → (low < r) × (r ≤ high)
unfolding rising member
rising-member low high [] r h m = absurd (false≢true m)
rising-member low high (x ∷ xs) r h m =
    let a = and_both h in
    let b = and_both a.1 in
    let l : low < x = ltb-true low x a.0 in
    let u : x ≤ high = leb-true x high b.0 in
    ⊎_elim (λ e. (omega arith, omega arith)) (λ g. let k = rising-member x high xs r b.1 g in (omega arith, omega arith)) (member-cases r x xs m)

pub parse-edition : (s : List ℕ) → (parse s).edition ≡ edition_in s
unfolding parse
parse-edition s = refl

module _ (s : List ℕ) (a : Accepted s) where
  abbrev p : Matrix
  p = (instance (parse s)).matrix

  lengths-count : length (parse s).lengths ≡ columns_in s
  unfolding parse
  lengths-count = length-map (entries s) size_of ∙ length-entries s

  numbers-count : length (parse s).numbers ≡ sum (parse s).lengths
  numbers-count = length-numbers s a.walked

  -- it is the one that the lists state
  pub file_is : stated (shape s).rows (parse s).lengths (parse s).numbers ≡ p
  unfolding shape instance parse
  file_is = refl

  pub file-wide : width p ≡ (shape s).columns
  unfolding shape instance
  file-wide = length-bodies (parse s).lengths (parse s).numbers ∙ lengths-count

  column : (j : ℕ) → j < width p → ColumnAt s j (entry_of (drop (bodies_at j) s))
  unfolding shape
  column j l = column-at s a.walked j (rw file-wide at l)

  few : width p ≤ 256
  unfolding shape
  few = omega (arith, file-wide, a.walked.header.counts.columns.most)

  tall : p.rows ≤ 64
  unfolding instance parse
  tall = a.walked.header.counts.rows.most

  pub file-rises : (j : ℕ) → rising 0 p.rows (body p j) ≡ true
  unfolding instance parse rows_fault
  file-rises j = bodies-rise (rows_in s) p.bodies j a.rising

  numbered : (j r : ℕ) → member r (body p j) ≡ true → (1 ≤ r) × (r ≤ p.rows)
  numbered j r m = rising-member 0 p.rows (body p j) r (file-rises j) m

  spanning : (j : ℕ) → j < width p → span p j ≡ (entry_of (drop (bodies_at j) s)).size
  unfolding instance
  spanning j l =
      let c = column j l in
      let e : Entry = entry_of (drop (bodies_at j) s) in
      let n : length (take e.size (drop e.start s)) ≡ e.size = simp (length-take, length-drop) (omega (arith, c.inside)) in
      ap length c.body ∙ n

  covering : (j : ℕ) → j < width p → 0 < span p j
  covering j l = omega (arith, (column j l).sized.least, spanning j l)

  contents : sum (parse s).lengths ≤ 4096
  unfolding contents_fault
  contents = contents-small s a.walked.contents

  pub file-small : Small p
  unfolding instance
  file-small = record {
    fits = record { wide = few; tall = tall };
    numbered = λ j r l m. numbered j r m;
    covering = covering;
    full = omega (arith, contents, bodies-size (parse s).lengths (parse s).numbers numbers-count, total_size p.bodies);
  }

  pub file_statable : Statable (shape s).rows (parse s).lengths (parse s).numbers
  file_statable = record { small = rw file_is file-small; numbers_long = numbers-count }

  -- the costs of a search: each is the cost in the file and the shift of its rows, and at most 65,000,000
  costs-count : length (parse s).lengths ≡ length (parse s).costs
  costs-count = lengths-count ∙ sym (length-costs s)

  pub raised-count : length (instance (parse s)).costs ≡ (shape s).columns
  unfolding instance shape
  raised-count = raised_long (parse s).edition (parse s).costs (parse s).lengths costs-count ∙ length-costs s

  pub file-priced : AllPriced (edition_in s) (parse s).costs (parse s).lengths
  file-priced = record {
    wide = omega (arith, length-costs s, a.walked.header.counts.columns.most);
    same = costs-count;
    each = λ j l.
        let c = column-at s a.walked j (rw (length-costs s) at l) in
        rw (c.cost, c.size) (record {
          cost = c.cheap;
          least = c.sized.least;
          most = omega (arith, c.sized.most, a.walked.header.counts.rows.most);
        });
  }

  raised-cost : (j : ℕ) → j < width p
      → get_or (instance (parse s)).costs j 0 ≡ raised (edition_in s) (cost_of (entry_of (drop (bodies_at j) s))) (entry_of (drop (bodies_at j) s)).size
  unfolding instance shape
  raised-cost j l =
      let c = column j l in
      let inside : j < length (parse s).costs = omega (arith, l, file-wide, length-costs s) in
      rw (← c.cost, ← c.size, ← parse-edition s) (raised_at (parse s).edition (parse s).costs (parse s).lengths j inside costs-count)

  pub file-costs : (j : ℕ) → j < width p → get_or (instance (parse s)).costs j 0 ≤ 65000000
  file-costs j l =
      let c = column j l in
      rw (raised-cost j l) (raised-most (edition_in s) _ _ c.cheap c.sized.least (omega (arith, c.sized.most, a.walked.header.counts.rows.most)))

  pub file-raised : (j : ℕ) → j < width p
      → pos (get_or (instance (parse s)).costs j 0) ≡ get_or (parse s).costs j (pos 0) +ℤ pos (shift (edition_in s) (span p j))
  file-raised j l =
      let c = column j l in
      rw (raised-cost j l, c.cost, spanning j l) (raised_is (edition_in s) _ _ c.cheap c.sized.least)
