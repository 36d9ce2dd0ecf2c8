-- What the calls answered before SPP2, in natural numbers, and the same answers in the present terms: each number is the same number, signed.
use Rattle.std.specs.Prelude.{map, ℕ, pos, length}
use Rattle.refusals.specs.Refusals.{Outcome, accepted, refused}
use Rattle.rules.specs.Search.{Incumbent, nothing, plan, Answer, best, none, stopped}
use Rattle.dutyfile.specs.declared.Edition.TheVariants.{Spp1}
use Rattle.dutyfile.specs.declared.Shape.{Shape}
use Rattle.dutyfile.specs.File.{Lists, lists}
use Rattle.verify.specs.declared.Verdict.{Verdict}
use Rattle.verify.specs.declared.Verdict.TheVariants.{Plan, NotOnce}
use Rattle.answer.specs.Answer.{Shown, Values}
use Rattle.answer.specs.Answer as answer
use Rattle.reduce.specs.declared.Bound.{Bound}
use Rattle.former.specs.File.{FormerLists, FormerShape}

-- an outcome with its answer in other terms
unfoldable pub map_outcome : {A B : Type 0} → (A → B) → Outcome A → Outcome B
map_outcome f (accepted a) = accepted (f a)
map_outcome f (refused k) = refused k

-- the reader: it gives the edition besides
abbrev pub in_spp1 : FormerShape → Shape
in_spp1 f = record { edition = Spp1; rows = f.rows; columns = f.columns; entries = f.entries }

-- the lists of a file
abbrev pub signed_lists : FormerLists → Lists
signed_lists d = lists Spp1 d.rows (map pos d.costs) d.lengths d.numbers

-- the plan check: a plan at a cost (01: price), or a row's number, counted from 1, and how often it is covered
pub data FormerVerdict : Type 0 where
  former_plan : ℕ → FormerVerdict
  former_not_once : ℕ → ℕ → FormerVerdict

abbrev pub signed_verdict : FormerVerdict → Verdict
signed_verdict (former_plan c) = Plan (pos c)
signed_verdict (former_not_once i k) = NotOnce i k

-- the searches: a plan's price and number of duties, if there is a plan
pub data FormerShown : Type 0 where
  former_no_plan : FormerShown
  former_priced : ℕ → ℕ → FormerShown

-- the values that 01 names for each answer
pub data FormerValues : Type 0 where
  former_best : ℕ → ℕ → ℕ → ℕ → FormerValues  -- price, root floor, nodes, number of duties
  former_none : ℕ → FormerValues  -- nodes
  former_stopped : ℕ → ℕ → FormerShown → FormerValues  -- root floor, nodes, and the kept plan's price and number of duties if there is one

-- the values of the rules' answer
unfoldable pub former_shown_of : Incumbent → FormerShown
former_shown_of nothing = former_no_plan
former_shown_of (plan c js) = former_priced c (length js)

unfoldable pub former_values_of : Answer → FormerValues
former_values_of (best c b n js) = former_best c b n (length js)
former_values_of (none n) = former_none n
former_values_of (stopped k b n) = former_stopped b n (former_shown_of k)

abbrev pub signed_shown : FormerShown → Shown
signed_shown former_no_plan = answer.no_plan
signed_shown (former_priced c k) = answer.priced (pos c) k

abbrev pub signed_values : FormerValues → Values
signed_values (former_best c b n k) = answer.told_best (pos c) (pos b) n k
signed_values (former_none n) = answer.told_none n
signed_values (former_stopped b n s) = answer.told_stopped (pos b) n (signed_shown s)

-- the reducing call: the lower bound (01: floor) and the number of rows used
pub record FormerBound : Type 0 where
  pub bound : ℕ
  pub used : ℕ

abbrev pub signed_bound : FormerBound → Bound
signed_bound f = record { bound = pos f.bound; used = f.used }
