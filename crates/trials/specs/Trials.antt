-- The trials (02, P6): the file of each, its search, and what they come to, one after another.
use Rattle.std.specs.Prelude.{List, [], ◌++◌, map, ℕ, zero, suc, ◌-◌, pos, length, replicate, ltb}
use Rattle.node.specs.Lists.{keep, from}
use Rattle.rules.specs.Search.{nothing, plan, Answer, best, none, stopped}
use Rattle.dutyfile.specs.File.{Lists, lists, render}
use Rattle.search.specs.Searching.{file_answer}

-- the lists of trial k: for each row above k, rising, a column of cost 1 that covers it alone is appended
unfoldable pub extended : ℕ → Lists → Lists
extended k d =
    let e : ℕ = d.rows - k in
    lists d.edition d.rows (d.costs ++ replicate e (pos 1)) (d.lengths ++ replicate e 1) (d.numbers ++ from e (suc k))

-- trial k: the search of 01 on the file of these lists
unfoldable pub trial : Lists → ℕ → ℕ → Answer
trial d limit k = file_answer (render (extended k d)) limit

-- a plan's columns without the appended ones, which follow w columns; numbered from 1
unfoldable pub own : ℕ → List ℕ → List ℕ
own w js = map suc (keep (λ j. ltb j w) js)

-- what the tool finds
pub data Finding : Type 0 where
  no_crew : ℕ → List ℕ → Finding  -- the smallest k, and columns for the rows before it
  plan_exists : Finding
  stopped_at : ℕ → Finding  -- k

-- by trial k's answer, where the trial before it showed `shown`: a trial that shows a plan counts as covered, and the next one follows
unfoldable pub judged : ℕ → List ℕ → Answer → (List ℕ → Finding) → Finding
judged k shown (none n) next = no_crew k shown
judged k shown (stopped nothing b n) next = stopped_at k
judged k shown (stopped (plan c js) b n) next = next js
judged k shown (best c b n js) next = next js

-- so many trials, from k upwards
unfoldable pub trials_from : Lists → ℕ → ℕ → ℕ → List ℕ → Finding
trials_from d limit zero k shown = plan_exists
trials_from d limit (suc n) k shown =
    judged k shown (trial d limit k) (λ js. trials_from d limit n (suc k) (own (length d.costs) js))

-- trials 1 to m, each with the whole node limit
unfoldable pub finding : Lists → ℕ → Finding
finding d limit = trials_from d limit d.rows 1 []
