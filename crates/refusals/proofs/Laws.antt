-- Sequences of tests: how a caller goes on after a test, and what it means that all of them pass.
use mathlib.Core.Path.{◌≡◌, refl, sym, ◌∙◌}
use mathlib.Core.Bool.{Bool, true, false}
use mathlib.Core.List.{List}
use Rattle.std.specs.Prelude.{Result, Ok, Err}
use Rattle.std.specs.Result.{IsErrAnd}
use Rattle.std.proofs.lemmas.Result.{err_from_is_err_and}
use Prim.Native.Nat.{ℕ, ◌+◌, ◌-◌, ◌≤◌, ◌<◌}
use native.Mathlib.Nat.{zero-add}
use lib.ListN.{length, get_or, take, drop}
use lib.Seq.{sets, sets-eq, get_or-drop, get_or-append-add, take-append_seam}
use native.Mathlib.Omega.{arith}
use Rattle.refusals.specs.Refusals.{Fault, fine, fault, ask, ◌then◌, number_of, fault_of, outcome, Outcome, accepted, refused, unless, front, filled}
use Rattle.refusals.specs.declared.Refusal.{Refusal}
use Rattle.refusals.specs.declared.Refusal.TheVariants.{Magic, Counts, Contents, Cost, Length, Total, Start, End, Row, Room, NodeLimit, Offered, Lists, Agreed, Absent, TableSize, TableCost, TrialColumns, StepColumn, Pair, PairCount}

-- no refusal has the number 0
pub numbered : (w : Refusal) → 0 < number_of w
numbered Magic = omega arith
numbered Counts = omega arith
numbered Contents = omega arith
numbered Cost = omega arith
numbered Length = omega arith
numbered Total = omega arith
numbered Start = omega arith
numbered End = omega arith
numbered Row = omega arith
numbered Room = omega arith
numbered NodeLimit = omega arith
numbered Offered = omega arith
numbered Lists = omega arith
numbered Agreed = omega arith
numbered Absent = omega arith
numbered TableSize = omega arith
numbered TableCost = omega arith
numbered TrialColumns = omega arith
numbered StepColumn = omega arith
numbered Pair = omega arith
numbered PairCount = omega arith

-- after a test that failed, and after one that passed
pub stops_at : {a : Fault} (k : ℕ) (b : Fault) → a ≡ fault k → (a then b) ≡ fault k
unfolding ◌then◌
stops_at k b e = rw e

pub goes_on : {a : Fault} (b : Fault) → a ≡ fine → (a then b) ≡ b
unfolding ◌then◌
goes_on b e = rw e

pub passes : {t : Bool} (k : ℕ) → t ≡ true → ask t k ≡ fine
unfolding ask
passes k e = rw e

pub fails : {t : Bool} (k : ℕ) → t ≡ false → ask t k ≡ fault k
unfolding ask
fails k e = rw e

-- what a call's result says, by the arm of a match
module _ {A : Type 0} {r : Result A Refusal} {a : Fault} (is : fault_of r ≡ a) where
  pub failed : (w : Refusal) → r ≡ Err w → a ≡ fault (number_of w)
  unfolding fault_of
  failed w e = rw e at (sym is)

  pub passed : {x : A} → r ≡ Ok x → a ≡ fine
  unfolding fault_of
  passed e = rw e at (sym is)

  pub stops : (b : Fault) (w : Refusal) → r ≡ Err w → fault_of r ≡ (a then b)
  stops b w e = is ∙ failed w e ∙ sym (stops_at (number_of w) b (failed w e))

  pub continues : (b : Fault) {x : A} → r ≡ Ok x → (a then b) ≡ b
  continues b e = goes_on b (passed e)

-- what is returned where a `?` hands on a refusal
module _ {A : Type 0} (w : Refusal) (r : Result A Refusal) (handed : IsErrAnd r (λ e. e ≡ w)) where
  pub handed_on : r ≡ Err w
  handed_on = let p = err_from_is_err_and r handed in rw p.2 at p.1

  pub fault_handed : (b : Fault) {a : Fault} → a ≡ fault (number_of w) → fault_of r ≡ (a then b)
  unfolding fault_of
  fault_handed b e = rw handed_on (sym (stops_at (number_of w) b e))

  pub outcome_handed : (x : A) {f : Fault} → f ≡ fault (number_of w) → outcome r ≡ unless f x
  unfolding outcome unless
  outcome_handed x e = rw (handed_on, e)

-- all tests pass: each of them does
pub both : (a b : Fault) → (a then b) ≡ fine → (a ≡ fine) × (b ≡ fine)
unfolding ◌then◌
both fine b e = (refl, e)
both (fault k) b e = absurd (let z : ◌≡◌ {A = ℕ} 0 1 = cc in omega arith)

pub asked : (t : Bool) (k : ℕ) → ask t k ≡ fine → t ≡ true
unfolding ask
asked true k e = refl
asked false k e = absurd (let z : ◌≡◌ {A = ℕ} 0 1 = cc in omega arith)

-- a call that accepts: its tests pass, and its answer is the one stated
pub accepts : {A : Type 0} (f : Fault) (a b : A) → unless f a ≡ accepted b → (f ≡ fine) × (a ≡ b)
unfolding unless
accepts fine a b e = (refl, cc)
accepts (fault k) a b e = absurd (let z : ◌≡◌ {A = ℕ} 0 1 = cc in omega arith)

pub refuses : {A : Type 0} (f : Fault) (a : A) (k : ℕ) → unless f a ≡ refused k → f ≡ fault k
unfolding unless
refuses fine a k e = absurd (let z : ◌≡◌ {A = ℕ} 0 1 = cc in omega arith)
refuses (fault j) a k e = let q : j ≡ k = cc in rw q

-- a refusal has no answer
pub refused_none : {A : Type 0} (k : ℕ) (a : A) → refused k ≡ accepted a → ⊥
refused_none k a e = let z : ◌≡◌ {A = ℕ} 0 1 = cc in omega arith

-- and the other way round
pub unless-fine : {A : Type 0} {f : Fault} (a : A) → f ≡ fine → accepted a ≡ unless f a
unfolding unless
unless-fine a e = rw e

pub unless-fault : {A : Type 0} {f : Fault} (a : A) (k : ℕ) → f ≡ fault k → refused k ≡ unless f a
unfolding unless
unless-fault a k e = rw e

-- a walk's outcome, at an element whose test fails or passes
pub outcome_stops : {A : Type 0} {f : Fault} (g : Fault) (a : A) (k : ℕ) → f ≡ fault k → unless (f then g) a ≡ refused k
outcome_stops g a k e = sym (unless-fault a k (stops_at k g e))

pub outcome_goes_on : {A : Type 0} {f : Fault} (g : Fault) (a : A) → f ≡ fine → unless (f then g) a ≡ unless g a
outcome_goes_on g a e = rw (goes_on g e)

-- a list whose first places are set, one after another
pub front-sets : {A : Type 0} (new old : List A) → length new ≤ length old → sets old 0 new ≡ front new old
unfolding front
front-sets new old h = rw (sets-eq new old 0 (omega arith), zero-add)

-- the front is the new list
pub front-take : {A : Type 0} (new old : List A) (n : ℕ) → length new ≡ n → take n (front new old) ≡ new
unfolding front
front-take new old n e = rw (← e) (take-append_seam new (drop (length new) old))

-- 01: places beyond what is filled keep their contents
pub beyond : {A : Type 0} (new old : List A) (k : ℕ) (d : A) → length new ≤ k → get_or (front new old) k d ≡ get_or old k d
unfolding front
beyond new old k d h =
    let e : k ≡ length new + (k - length new) = omega arith in
    rw e (get_or-append-add new (drop (length new) old) (k - length new) d ∙ get_or-drop (length new) old (k - length new) d)

-- a list that a call fills or leaves, by the call's outcome
pub fills : {A B : Type 0} {o : Outcome A} (a : A) (new old : List B) → o ≡ accepted a → filled o new old ≡ front new old
unfolding filled
fills a new old e = rw e

pub keeps : {A B : Type 0} {o : Outcome A} (k : ℕ) (new old : List B) → o ≡ refused k → old ≡ filled o new old
unfolding filled
keeps k new old e = rw e

-- later tests matter only where the former pass
pub then_same : (a : Fault) {b c : Fault} → (a ≡ fine → b ≡ c) → (a then b) ≡ (a then c)
unfolding ◌then◌
then_same fine e = e refl
then_same (fault k) e = refl

-- the answer matters only where the tests pass
pub unless-same : {A : Type 0} (f : Fault) (a b : A) → (f ≡ fine → a ≡ b) → unless f a ≡ unless f b
unfolding unless
unless-same fine a b e = rw (e refl)
unless-same (fault k) a b e = refl
