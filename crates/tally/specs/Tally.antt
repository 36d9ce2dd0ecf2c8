-- The tally that code passes, in the rules' terms.
use Rattle.std.specs.Prelude.{Bool, true, false, List, ℕ, get_or, eqb}
use Rattle.node.specs.Lists.{keep, upto}
use Rattle.rules.specs.Search.{Incumbent, nothing, plan}
use Rattle.rules.specs.Limited as rules
use Rattle.tally.specs.declared.Tally.{Tally}

-- the taken ones of the first w columns, by their marks, rising
abbrev pub taken_in : ℕ → List ℕ → List ℕ
taken_in w marks = keep (λ j. eqb (get_or marks j 0) 2) (upto w)

-- an incumbent of cost c, if there is one
unfoldable pub kept_by : Bool → ℕ → List ℕ → Incumbent
kept_by false c js = nothing
kept_by true c js = plan c js

abbrev pub kept_in : ℕ → Tally → Incumbent
kept_in w t = kept_by t.kept t.cost (taken_in w t.plan)

-- of a matrix with w columns
abbrev pub shown : ℕ → Tally → rules.Tally
shown w t = record { nodes = t.nodes; left = t.left; stopped = t.stopped; kept = kept_in w t }
