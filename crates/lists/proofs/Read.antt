-- A file is refused by its own tests, since the lists have room for any accepted file; and the front of each list is the file's own list.
use mathlib.Core.Path.{◌≡◌, refl, ap, sym, ◌∙◌}
use mathlib.Core.List.{List}
use Prim.Native.Nat.{ℕ, ◌≤◌, ◌<◌}
use lib.IntN.{ℤ}
use lib.ListN.{length, get_or, take, length-map}
use borrow.Author.Tests.{le-leb}
use Rattle.refusals.specs.Refusals.{Fault, fine, fault, ◌then◌, accepted, refused, unless, number_of, front, filled}
use Rattle.refusals.specs.declared.Refusal.{Refusal}
use Rattle.refusals.proofs.Laws.{passes, accepts, refuses, fills, front-take}
use Rattle.node.specs.Matrix.{width}
use Rattle.rules.proofs.Costs.{cost_limit}
use Rattle.dutyfile.specs.declared.Shape.{Shape}
use Rattle.dutyfile.specs.File.{columns_in, entries, cost_of, size_of, parse, raised_all, instance, sum, shape}
use Rattle.dutyfile.specs.Faults.{file_fault, rooms_fault, reading, contents_fault}
use Rattle.dutyfile.proofs.Entries.{length-entries}
use Rattle.dutyfile.proofs.Facts.{Accepted, file-fine, fine-file, all_pass, contents-small, length-numbers}
use Rattle.std.specs.Prelude.{Result, Ok, Err}
use Rattle.refusals.specs.Refusals.{outcome}
use Rattle.raising.specs.Priced.{AllPriced}
use Rattle.matrix.specs.Stated.{stated, Statable}
use Rattle.matrix.proofs.Accepted.{parse-edition, file_is, file-wide, file_statable, file-priced, raised-count, file-costs}
use Rattle.lists.specs.Places.{Places}

-- what an accepted file holds, lists whose first places state its matrix, and first costs that are raised
pub record Listed (file : List ℕ) (found : Shape) (costs : List ℤ) (lengths numbers : List ℕ) : Type 0 where
  pub passes : file_fault file ≡ fine
  pub shape_is : shape file ≡ found
  pub columns : found.columns ≤ 256
  pub entries : found.entries ≤ 4096
  pub priced : AllPriced found.edition (take found.columns costs) (take found.columns lengths)
  pub raised_is : raised_all found.edition (take found.columns costs) (take found.columns lengths) ≡ (instance (parse file)).costs
  pub long : length (instance (parse file)).costs ≡ found.columns
  pub statable : Statable found.rows (take found.columns lengths) (take found.entries numbers)
  pub matrix_is : stated found.rows (take found.columns lengths) (take found.entries numbers) ≡ (instance (parse file)).matrix
  pub wide : width (instance (parse file)).matrix ≡ found.columns
  pub cheap : (j : ℕ) → j < width (instance (parse file)).matrix → get_or (instance (parse file)).costs j 0 ≤ cost_limit

-- what an accepted file holds, and lists whose first places are its lists
pub record Fronts (file : List ℕ) (found : Shape) (costs : List ℤ) (lengths numbers : List ℕ) : Type 0 where
  pub passes : file_fault file ≡ fine
  pub shape_is : shape file ≡ found
  pub costs_front : take found.columns costs ≡ (parse file).costs
  pub lengths_front : take found.columns lengths ≡ (parse file).lengths
  pub numbers_front : take found.entries numbers ≡ (parse file).numbers

-- what an accepted file's lists hold
record Sizes (s : List ℕ) : Type 0 where
  columns : columns_in s ≤ 256
  entries : sum (parse s).lengths ≤ 4096
  costs_long : length (parse s).costs ≡ columns_in s
  lengths_long : length (parse s).lengths ≡ columns_in s
  numbers_long : length (parse s).numbers ≡ sum (parse s).lengths

sizes : (s : List ℕ) → Accepted s → Sizes s
unfolding parse contents_fault
sizes s a = record {
  columns = a.walked.header.counts.columns.most;
  entries = contents-small s a.walked.contents;
  costs_long = length-map (entries s) cost_of ∙ length-entries s;
  lengths_long = length-map (entries s) size_of ∙ length-entries s;
  numbers_long = length-numbers s a.walked;
}

has_room : (s : List ℕ) → Accepted s → rooms_fault (shape s) 256 256 4096 ≡ fine
unfolding rooms_fault shape
has_room s a =
    let z = sizes s a in
    all_pass (passes 10 (le-leb _ _ z.columns)) (all_pass (passes 10 (le-leb _ _ z.columns)) (passes 10 (le-leb _ _ z.entries)))

reading_local : (s : List ℕ) → reading s 256 256 4096 ≡ unless (file_fault s) (shape s)
unfolding reading ◌then◌ unless
reading_local s = go (file_fault s) refl
  where
    go : (f : Fault) → file_fault s ≡ f → unless (f then rooms_fault (shape s) 256 256 4096) (shape s) ≡ unless f (shape s)
    go fine e = rw (has_room s (file-fine s e))
    go (fault k) e = refl

-- an accepted file, and lists with its costs, its body lengths and its row numbers
pub accepted-listed : (s : List ℕ) → Accepted s → (costs : List ℤ) (lengths numbers : List ℕ) → take (shape s).columns costs ≡ (parse s).costs
    → take (shape s).columns lengths ≡ (parse s).lengths → take (shape s).entries numbers ≡ (parse s).numbers
    → Listed s (shape s) costs lengths numbers
unfolding shape instance
accepted-listed s a costs lengths numbers c d k =
    let z : Sizes s = sizes s a in
    record {
      passes = fine-file s a;
      shape_is = refl;
      columns = z.columns;
      entries = z.entries;
      priced = rw (c, d) (file-priced s a);
      raised_is = rw (c, d, parse-edition s);
      long = raised-count s a;
      statable = rw (d, k) (file_statable s a);
      matrix_is = rw (d, k) (file_is s a);
      wide = file-wide s a;
      cheap = file-costs s a;
    }

module _ (s : List ℕ) (r : Result Shape Refusal) where
  pub file_alone : (old : List ℤ) (old' old'' : List ℕ) → Places old old' old'' → outcome r ≡ reading s (length old) (length old') (length old'') →
      outcome r ≡ unless (file_fault s) (shape s)
  file_alone old old' old'' places told = rw (places.costs_long, places.lengths_long, places.numbers_long) at told ∙ reading_local s

  module _ (says : outcome r ≡ unless (file_fault s) (shape s)) where
    pub file-refused : (w : Refusal) → r ≡ Err w → file_fault s ≡ fault (number_of w)
    unfolding outcome
    file-refused w e =
        let t : refused (number_of w) ≡ unless (file_fault s) (shape s) = rw e at says in
        refuses _ _ (number_of w) (sym t)

    module _ (found : Shape) (e : r ≡ Ok found) where
      tells : (file_fault s ≡ fine) × (shape s ≡ found)
      unfolding outcome
      tells =
          let t : accepted found ≡ unless (file_fault s) (shape s) = rw e at says in
          accepts _ _ _ (sym t)

      pub filled_is : {A : Type 0} (new old now : List A) → now ≡ filled (outcome r) new old → now ≡ front new old
      unfolding outcome
      filled_is new old now h = h ∙ fills found new old (rw e)

      filled-front : {A : Type 0} (new old now : List A) (n : ℕ) → now ≡ filled (outcome r) new old → length new ≡ n → take n now ≡ new
      filled-front new old now n h k = ap (take n) (filled_is new old now h) ∙ front-take new old n k

      module _ (old : List ℤ) (old' old'' : List ℕ) (costs : List ℤ) (lengths numbers : List ℕ)
          (h : costs ≡ filled (outcome r) (parse s).costs old) (l : lengths ≡ filled (outcome r) (parse s).lengths old')
          (n : numbers ≡ filled (outcome r) (parse s).numbers old'') where
        pub file_fronts : Fronts s found costs lengths numbers
        unfolding shape
        file_fronts =
            let z : Sizes s = sizes s (file-fine s tells.0) in
            rw (sym tells.1) (record {
              passes = tells.0;
              shape_is = refl;
              costs_front = filled-front (parse s).costs old costs (columns_in s) h z.costs_long;
              lengths_front = filled-front (parse s).lengths old' lengths (columns_in s) l z.lengths_long;
              numbers_front = filled-front (parse s).numbers old'' numbers (sum (parse s).lengths) n z.numbers_long;
            })

        pub file-listed : Listed s found costs lengths numbers
        file-listed =
            let f = file_fronts in
            let is = sym f.shape_is in
            rw is
            (accepted-listed s (file-fine s f.passes) costs lengths numbers (rw is at f.costs_front) (rw is at f.lengths_front) (rw is at f.numbers_front))
