-- The call for either edition: a file is refused by its own tests, then by the lent lists' room; and otherwise what is given is the root
-- reduced.
use mathlib.Core.Path.{◌≡◌, sym, ◌∙◌}
use mathlib.Core.Bool.{true}
use mathlib.Core.List.{List, map}
use Prim.Native.Nat.{ℕ, ◌≤◌, ◌<◌}
use native.Mathlib.Omega.{arith}
use lib.IntN.{ℤ, pos}
use lib.ListN.{take}
use borrow.Author.Tests.{leb-true}
use Rattle.refusals.specs.Refusals.{fine, fault, Outcome, accepted, refused, unless, front, filled}
use Rattle.refusals.proofs.Laws.{both, asked, stops_at, goes_on, unless-fine, unless-fault}
use Rattle.node.specs.Matrix.{Matrix, width}
use Rattle.node.specs.declared.Node.{Node}
use Rattle.node.specs.Stored.{matrix_in}
use Rattle.node.specs.Node.{root, is_free, cost_at}
use Rattle.rules.specs.Reduce as rules
use Rattle.rules.proofs.Plans.{root-free}
use Rattle.rules.proofs.Costs.{Fair, cost_limit, Workable, fair_cost}
use Rattle.rules.proofs.Reducing.{Finished, used-few, fair_lowers, reduce-done}
use Rattle.dutyfile.specs.declared.Shape.{Shape}
use Rattle.dutyfile.specs.File.{parse, instance}
use Rattle.dutyfile.specs.Faults.{file_fault}
use Rattle.reduce.specs.declared.Bound.{Bound}
use Rattle.lowering.specs.declared.Reduction.{Reduction}
use Rattle.lists.specs.Loaded.{Loaded}
use Rattle.lowering.specs.Done.{Done}
use Rattle.reduce.specs.Room.{Room}
use Rattle.reduce.specs.Answer.{reduced_root, bound_of, reduced_costs, used_rows, lists_fault, reduce_fault}

-- a reduced cost is at most the largest cost
module _ (l costs : List ℕ) (w : Workable l (root (matrix_in l) costs)) where
  pub reduced-most : (j : ℕ) → j < width (matrix_in l) → cost_at (rules.reduce (matrix_in l) (root (matrix_in l) costs)).node j ≤ cost_limit
  reduced-most j h =
      let p : Matrix = matrix_in l in
      let F = w.kept.small.fits in
      let t : Node = (rules.reduce p (root p costs)).node in
      let r : Finished p (Fair p cost_limit) (root p costs) t =
      reduce-done rules.precedes p F (Fair p cost_limit) (fair_lowers p F cost_limit) (root p costs) w.fair in
      let free : is_free t j ≡ true = rw r.same_column (root-free p F costs j h) in
      fair_cost p w.kept.small cost_limit t r.good j (record { col = h; is_free_true = free })

module _ (s : List ℕ) (c o : ℕ) where
  abbrev answered : Outcome Bound
  answered = unless (reduce_fault s c o) (bound_of s)

  pub refused-file : (k : ℕ) → file_fault s ≡ fault k → refused k ≡ answered
  unfolding reduce_fault
  refused-file k h = unless-fault _ k (stops_at k _ h)

  module _ (found : Shape) (l costs : List ℕ) (k : Loaded s found l costs) where
    pub refused-lists : (n : ℕ) → lists_fault found c o ≡ fault n → refused n ≡ answered
    unfolding reduce_fault
    refused-lists n h = unless-fault _ n (goes_on _ k.passes ∙ rw (sym k.shape_is) at h)

    module _ (first : Node) (is : first ≡ root (matrix_in l) costs) where
      module _ (fits : lists_fault found c o ≡ fine) (done : Reduction) (told : Done (matrix_in l) first done) where
        d : Done (instance (parse s)).matrix (root (instance (parse s)).matrix (instance (parse s)).costs) done
        d = rw (is ∙ k.root_is, k.is) at told

        pub lists-room : Room done found.columns c o
        unfolding lists_fault
        lists-room =
            let p : Matrix = matrix_in l in
            let F = k.kept.small.fits in
            let a = both _ _ fits in
            let u : done.count ≤ found.rows = omega (arith, told.count_is, k.rows_is, used-few p F first) in
            let q : found.rows ≤ o = leb-true _ _ (asked _ 10 a.1) in
            record {
              wide = omega (arith, k.columns_is, F.wide);
              few = omega (arith, k.rows_is, F.tall);
              reduced = leb-true _ _ (asked _ 10 a.0);
              order = omega arith;
              below = λ j h. rw (told.node_is, is) (omega (arith, reduced-most l costs k.workable j (rw k.columns_is h)));
            }

        module _ (bound : Bound) (given : bound ≡ record { bound = pos done.node.bound; used = done.count }) where
          pub given-bound : accepted bound ≡ answered
          unfolding reduce_fault bound_of reduced_root instance
          given-bound =
              let b : bound ≡ bound_of s = given ∙ rw (d.node_is, d.count_is) in
              rw b (unless-fine (bound_of s) (goes_on _ k.passes ∙ rw (sym k.shape_is) at fits))

          pub given-costs : (new old : List ℤ) → new ≡ front (map pos (take found.columns done.node.cost)) old → new ≡ filled (accepted bound) (reduced_costs s) old
          unfolding filled reduced_costs reduced_root instance
          given-costs new old h = h ∙ rw (d.node_is, ← k.shape_is)

          pub given-rows : (new old : List ℕ) → new ≡ front (take done.count done.used) old → new ≡ filled (accepted bound) (used_rows s) old
          unfolding filled used_rows reduced_root instance
          given-rows new old h = h ∙ rw d.used_is
