-- Refusals: their numbers, sequences of tests, and what a call comes to (01, When a call declines).
use Rattle.std.specs.Prelude.{Bool, true, false, List, ◌++◌, ℕ, length, drop, Result, Ok, Err}
use Rattle.refusals.specs.declared.Refusal.{Refusal}
use Rattle.refusals.specs.declared.Refusal.TheVariants.{Magic, Counts, Contents, Cost, Length, Total, Start, End, Row, Room, NodeLimit, Offered, Lists, Agreed, Absent, TableSize, TableCost, TrialColumns, StepColumn, Pair, PairCount}

-- 01's number for each refusal
abbrev pub number_of : Refusal → ℕ
number_of Magic = 1
number_of Counts = 2
number_of Contents = 3
number_of Cost = 4
number_of Length = 5
number_of Total = 6
number_of Start = 7
number_of End = 8
number_of Row = 9
number_of Room = 10
number_of NodeLimit = 11
number_of Offered = 12
number_of Lists = 13
number_of Agreed = 14
number_of Absent = 15
number_of TableSize = 16
number_of TableCost = 17
number_of TrialColumns = 18
number_of StepColumn = 19
number_of Pair = 20
number_of PairCount = 21

-- what tests find: nothing, or a fault with 01's number
pub data Fault : Type 0 where
  fine : Fault
  fault : ℕ → Fault

-- a test, and the number that it refuses with where it fails
unfoldable pub ask : Bool → ℕ → Fault
ask true k = fine
ask false k = fault k

infixr 5 ◌then◌
-- tests in sequence: the first fault counts
unfoldable pub ◌then◌ : Fault → Fault → Fault
fine then b = b
(fault k) then b = fault k

-- what a call comes to: its answer, or a refusal with 01's number
pub data Outcome (A : Type 0) : Type 0 where
  accepted : A → Outcome A
  refused : ℕ → Outcome A

-- an answer, if the tests before it find nothing
unfoldable pub unless : {A : Type 0} → Fault → A → Outcome A
unless fine a = accepted a
unless (fault k) a = refused k

-- a list with its front filled: the other places keep their contents
unfoldable pub front : {A : Type 0} → List A → List A → List A
front new old = new ++ drop (length new) old

-- what a lent list holds after a call that fills its front: after a refusal every place keeps its contents
unfoldable pub filled : {A B : Type 0} → Outcome A → List B → List B → List B
filled (accepted a) new old = front new old
filled (refused k) new old = old

-- what the code's tests find, in these terms
unfoldable pub fault_of : {A : Type 0} → Result A Refusal → Fault
fault_of (Ok a) = fine
fault_of (Err why) = fault (number_of why)

-- what a call of the code comes to, in these terms
unfoldable pub outcome : {A : Type 0} → Result A Refusal → Outcome A
outcome (Ok a) = accepted a
outcome (Err why) = refused (number_of why)
