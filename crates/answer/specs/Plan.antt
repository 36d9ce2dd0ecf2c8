-- Room for the plan that a search shows.
use Rattle.std.specs.Prelude.{◌≡◌, true, List, ℕ, ◌≤◌, length}
use Rattle.tally.specs.Tally.{taken_in}
use Rattle.solver.specs.declared.Solved.{Solved}

-- a list of so many places has room for the taken ones of the first w columns
pub record PlanRoom (marks : List ℕ) (w places : ℕ) : Type 0 where
  pub wide : w ≤ 256
  pub room : length (taken_in w marks) ≤ places

-- and for the plan that is kept, if there is one
pub record PlanFits (r : Solved) (w places : ℕ) : Type 0 where
  pub wide : w ≤ 256
  pub room : r.tally.kept ≡ true → length (taken_in w r.tally.plan) ≤ places
