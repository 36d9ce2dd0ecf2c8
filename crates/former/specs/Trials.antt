-- The call that finds which sailings can't be crewed, as it was before SPP2.
use Rattle.std.specs.Prelude.{List, [], ◌++◌, ℕ, zero, suc, ◌-◌, length, replicate}
use Rattle.refusals.specs.Refusals.{◌then◌, Outcome, unless}
use Rattle.node.specs.Lists.{from}
use Rattle.rules.specs.Search.{Answer}
use Rattle.dutyfile.specs.File.{shape}
use Rattle.trials.specs.Trials.{own, Finding, plan_exists, judged}
use Rattle.uncrewed.specs.Answer.{Values, values_of, shown_of, uncrewed_fault}
use Rattle.former.specs.File.{FormerLists, former_lists, former_parse, former_render}
use Rattle.former.specs.Faults.{former_file_fault}
use Rattle.former.specs.Searches.{former_file_answer}

-- the lists of trial k: for each row above k, rising, a column of cost 1 that covers it alone is appended
unfoldable pub former_extended : ℕ → FormerLists → FormerLists
former_extended k d =
    let e : ℕ = d.rows - k in
    former_lists d.rows (d.costs ++ replicate e 1) (d.lengths ++ replicate e 1) (d.numbers ++ from e (suc k))

-- trial k: the search of 01 on the file of these lists
unfoldable pub former_trial : FormerLists → ℕ → ℕ → Answer
former_trial d limit k = former_file_answer (former_render (former_extended k d)) limit

-- so many trials, from k upwards
unfoldable pub former_trials_from : FormerLists → ℕ → ℕ → ℕ → List ℕ → Finding
former_trials_from d limit zero k shown = plan_exists
former_trials_from d limit (suc n) k shown =
    judged k shown (former_trial d limit k) (λ js. former_trials_from d limit n (suc k) (own (length d.costs) js))

-- trials 1 to m, each with the whole node limit
unfoldable pub former_finding : FormerLists → ℕ → Finding
former_finding d limit = former_trials_from d limit d.rows 1 []

-- the tool on a file within a node limit, where the lent list holds so many places, and what fills the front of the list
unfoldable pub former_uncrewing : List ℕ → ℕ → ℕ → Outcome Values
former_uncrewing file limit places = unless (former_file_fault file then uncrewed_fault (shape file) places limit) (values_of (former_finding (former_parse file) limit))

unfoldable pub former_uncrewed_list : List ℕ → ℕ → List ℕ
former_uncrewed_list file limit = shown_of (former_finding (former_parse file) limit)
