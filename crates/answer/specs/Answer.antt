-- The search call's answer in 01's terms, by the prices in the file, and the plan as its list shows it.
use Rattle.std.specs.Prelude.{Bool, true, false, List, [], map, ℕ, suc, ℤ, pos, ◌-ℤ◌, length, take, Result, Ok, Err}
use Rattle.refusals.specs.Refusals.{Outcome, accepted, refused, number_of}
use Rattle.rules.specs.Search.{Incumbent, nothing, plan, Answer, best, none, stopped}
use Rattle.rules.specs.Requests.{columns_of}
use Rattle.refusals.specs.declared.Refusal.{Refusal}
use Rattle.answer.specs.declared.SearchAnswer.{SearchAnswer}
use Rattle.answer.specs.declared.SearchAnswer.TheVariants.{Best, None, Stopped, StoppedWith}

-- a plan's price and number of duties, if there is a plan
pub data Shown : Type 0 where
  no_plan : Shown
  priced : ℤ → ℕ → Shown

-- the values that 01 names for each answer
pub data Values : Type 0 where
  told_best : ℤ → ℤ → ℕ → ℕ → Values  -- price, root floor, nodes, number of duties
  told_none : ℕ → Values  -- nodes
  told_stopped : ℤ → ℕ → Shown → Values  -- root floor, nodes, and the kept plan's price and number of duties if there is one

-- what an answer of the code says, in these terms
unfoldable pub told : SearchAnswer → Values
told (Best f) = told_best f.cost f.bound f.nodes f.columns
told (None n) = told_none n
told (Stopped h) = told_stopped h.bound h.nodes no_plan
told (StoppedWith f) = told_stopped f.bound f.nodes (priced f.cost f.columns)

-- what the call answers: these values, or a refusal with its number
unfoldable pub search_outcome : Result SearchAnswer Refusal → Outcome Values
search_outcome (Ok a) = accepted (told a)
search_outcome (Err why) = refused (number_of why)

-- a cost or a bound of the rules, less what the search added to the prices in the file (02, P10)
abbrev pub lowered : ℕ → ℕ → ℤ
lowered added c = pos c -ℤ pos added

-- the values of the rules' answer, where so much was added
unfoldable pub shown_of : ℕ → Incumbent → Shown
shown_of added nothing = no_plan
shown_of added (plan c js) = priced (lowered added c) (length js)

unfoldable pub values_of : ℕ → Answer → Values
values_of added (best c b n js) = told_best (lowered added c) (lowered added b) n (length js)
values_of added (none n) = told_none n
values_of added (stopped k b n) = told_stopped (lowered added b) n (shown_of added k)

-- a plan's columns, numbered from 1; with no plan nothing is written
unfoldable pub plan_numbers : Incumbent → List ℕ
plan_numbers nothing = []
plan_numbers (plan c js) = map suc js

-- the plan that a list shows: its first n places, numbered from 1
unfoldable pub listed : ℕ → List ℕ → List ℕ
listed n list = columns_of (take n list)

-- what an answer shows, its nodes, and whether it is none or stopped
unfoldable pub shown_in : Values → Shown
shown_in (told_best c b n k) = priced c k
shown_in (told_none n) = no_plan
shown_in (told_stopped b n s) = s

unfoldable pub nodes_in : Values → ℕ
nodes_in (told_best c b n k) = n
nodes_in (told_none n) = n
nodes_in (told_stopped b n s) = n

unfoldable pub says_none : Values → Bool
says_none (told_best c b n k) = false
says_none (told_none n) = true
says_none (told_stopped b n s) = false

unfoldable pub says_stopped : Values → Bool
says_stopped (told_best c b n k) = false
says_stopped (told_none n) = false
says_stopped (told_stopped b n s) = true
