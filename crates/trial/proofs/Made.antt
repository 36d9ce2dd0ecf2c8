-- The lists of a trial, made of those of a file, are read as the trial's file is, and the search of them is the search of that file.
use mathlib.Core.Path.{◌≡◌, ap, sym, ◌∙◌}
use mathlib.Core.List.{List, [], ◌++◌}
use Prim.Native.Nat.{ℕ, suc, ◌+◌, ◌-◌, ◌≤◌}
use native.Mathlib.Omega.{arith}
use lib.IntN.{ℤ, pos}
use lib.ListN.{length, take, drop, replicate, length-append, length-replicate}
use lib.Seq.{sets, sets-eq, length-sets, take_at, length-take-le}
use Rattle.node.specs.Lists.{from}
use Rattle.node.specs.declared.Node.{Node}
use Rattle.node.specs.Matrix.{width}
use Rattle.node.specs.Node.{root}
use Rattle.node.specs.Stored.{matrix_in}
use Rattle.node.proofs.Members.{length_from}
use Rattle.rules.specs.declared.Goal.TheVariants.{Sum}
use Rattle.rules.specs.Tree.{live, answer}
use Rattle.rules.specs.Goals.{search_for, search_with}
use Rattle.rules.specs.Pairs.{pairs_of}
use Rattle.rules.proofs.Pairs.{paired_none}
use Rattle.rules.proofs.Goals.{goal_root}
use Rattle.dutyfile.specs.declared.Shape.{Shape}
use Rattle.dutyfile.specs.File.{Lists, columns_in, parse, render, instance, shape, sum}
use Rattle.dutyfile.proofs.Entries.{length-costs}
use Rattle.dutyfile.proofs.Facts.{file-fine}
use Rattle.dutyfile.proofs.Round.{Passing, ReadsBack, reads_back}
use Rattle.lists.specs.Loaded.{Loaded}
use Rattle.lists.proofs.Read.{Listed, accepted-listed}
use Rattle.solver.specs.declared.Solved.{Solved}
use Rattle.solver.specs.Solved.{Searchable, solved_answer}
use Rattle.search.specs.Searching.{file_answer}
use Rattle.trials.specs.Trials.{extended, trial}
use Rattle.trials.proofs.Extended.{extended_passing, sum-extended, length-extended}
use Rattle.trial.specs.Ready.{held, Places, Ready}

-- a list in which some places are set, n places before them
module _ {A : Type 0} (l new : List A) (n : ℕ) (h : n + length new ≤ length l) where
  front_long : length (take n l ++ new) ≡ n + length new
  front_long = simp (length-append, length-take-le n l (omega (arith, h)))

  take-sets : (m : ℕ) → length new ≡ m → take (n + m) (sets l n new) ≡ take n l ++ new
  take-sets m q = rw (← q, sets-eq new l n h) (take_at (take n l ++ new) (drop (n + length new) l) (n + length new) front_long)

-- a file that is read, searched from its root
loaded_answer : (s : List ℕ) (found : Shape) (l costs : List ℕ) → Loaded s found l costs → (limit : ℕ)
    → answer (search_for Sum (matrix_in l)) (matrix_in l) (live (root (matrix_in l) costs)) limit ≡ file_answer s limit
unfolding search_for file_answer instance
loaded_answer s found l costs f limit = rw (f.root_is, f.is)

-- trial k of a file: its numbers of rows, columns and row numbers, and its file
abbrev pub more : Shape → ℕ → Shape
more found k =
    record { edition = found.edition; rows = found.rows; columns = found.columns + (found.rows - k); entries = found.entries + (found.rows - k) }

abbrev pub trial_file : Shape → List ℤ → List ℕ → List ℕ → ℕ → List ℕ
trial_file found costs lengths numbers k = render (extended k (held found costs lengths numbers))

module _ (found : Shape) (costs : List ℤ) (lengths numbers : List ℕ) (limit : ℕ) (r : Ready found costs lengths numbers limit) (k : ℕ) (one : 1 ≤ k)
    (low : k ≤ found.rows) where
  abbrev d : Lists
  d = held found costs lengths numbers

  abbrev e : ℕ
  e = found.rows - k

  passes : Passing (extended k d)
  passes = extended_passing d r.lists k one low

  pub places : Places found k
  places = record {
    low = low;
    tall = r.lists.passes.counts.rows.most;
    wide = omega (arith, r.lists.few, r.columns_is, r.lists.passes.counts.rows.most, one);
    full = omega (arith, r.lists.full, r.entries_is, one);
  }

  abbrev file : List ℕ
  file = trial_file found costs lengths numbers k

  back : ReadsBack (extended k d)
  back = reads_back (extended k d) passes

  shape_is : shape file ≡ more found k
  unfolding shape extended parse
  shape_is =
      let c : columns_in file ≡ found.columns + e =
      sym (length-costs file) ∙ ap (λ (x : Lists). length x.costs) back.lists ∙ length-extended d r.lists k one low ∙ rw r.columns_is in
      let n : sum (parse file).lengths ≡ found.entries + e =
      ap (λ (x : Lists). sum x.lengths) back.lists ∙ sum-extended d r.lists k one low ∙ rw r.entries_is in
      rw (c, n, ap (λ (x : Lists). x.edition) back.lists, ap (λ (x : Lists). x.rows) back.lists)

  -- the lists that are made
  module _ (costs' : List ℤ) (lengths' numbers' : List ℕ) (costs_are : costs' ≡ sets costs found.columns (replicate e (pos 1)))
      (lengths_are : lengths' ≡ sets lengths found.columns (replicate e 1)) (numbers_are : numbers' ≡ sets numbers found.entries (from e (suc k)))
      (costs_long : length costs ≡ 256) (lengths_long : length lengths ≡ 256) (numbers_long : length numbers ≡ 4096) where
    pub made_long : (length costs' ≡ 256) × (length lengths' ≡ 256) × (length numbers' ≡ 4096)
    made_long = (
      ap length costs_are ∙ length-sets costs found.columns (replicate e (pos 1)) ∙ costs_long,
      ap length lengths_are ∙ length-sets lengths found.columns (replicate e 1) ∙ lengths_long,
      ap length numbers_are ∙ length-sets numbers found.entries (from e (suc k)) ∙ numbers_long,
    )

    take-ones : {A : Type 0} (l : List A) (x : A) → length l ≡ 256 →
        take (found.columns + e) (sets l found.columns (replicate e x)) ≡ take found.columns l ++ replicate e x
    take-ones l x long = take-sets l (replicate e x) found.columns (omega (arith, places.wide, length-replicate e x, long)) e (length-replicate e x)

    pub made : Listed file (more found k) costs' lengths' numbers'
    unfolding extended
    made =
        let c : take (shape file).columns costs' ≡ (parse file).costs =
        rw (shape_is, costs_are, back.lists) (take-ones costs (pos 1) costs_long) in
        let l : take (shape file).columns lengths' ≡ (parse file).lengths =
        rw (shape_is, lengths_are, back.lists) (take-ones lengths 1 lengths_long) in
        let n : take (shape file).entries numbers' ≡ (parse file).numbers =
        rw (shape_is, numbers_are, back.lists)
        (take-sets numbers (from e (suc k)) found.entries (omega (arith, places.full, length_from e (suc k), numbers_long)) e (length_from e (suc k))) in
        rw shape_is at (accepted-listed file (file-fine file back.passes) costs' lengths' numbers' c l n)

  -- its root, and its search
  module _ (l costs' : List ℕ) (f : Loaded file (more found k) l costs') (first : Node) (is : first ≡ root (matrix_in l) costs') where
    pub searchable : Searchable Sum [] l first limit
    searchable = record {
      some = record { some = rw is (goal_root Sum l costs' f.workable); fits = λ i h. absurd (omega arith) };
      one = r.one;
      limited = r.limited;
    }

    pub searched : (done : Solved) → solved_answer (width (matrix_in l)) done ≡ answer (search_with Sum [] (matrix_in l)) (matrix_in l) (live first) limit
        → solved_answer (found.columns + e) done ≡ trial d limit k
    unfolding trial pairs_of
    searched done ends =
        let plain : search_with Sum [] (matrix_in l) ≡ search_for Sum (matrix_in l) = paired_none (matrix_in l) (search_for Sum (matrix_in l)) in
        rw (f.columns_is, plain) at ends ∙ rw is (loaded_answer file (more found k) l costs' f limit)
