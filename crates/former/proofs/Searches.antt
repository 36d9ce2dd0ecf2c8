-- The searches for the least sum and the program give the answers of before over a file that does not begin with SPP2, and the search for the longest
-- duty over any file.
use mathlib.Core.Path.{◌≡◌, refl}
use mathlib.Core.List.{List}
use Prim.Native.Nat.{ℕ}
use native.Mathlib.Nat.{add-zero}
use lib.IntN.{pos}
use Rattle.refusals.specs.Refusals.{Fault, fine, ◌then◌, Outcome, accepted, refused, filled}
use Rattle.refusals.proofs.Laws.{both}
use Rattle.rules.specs.Search.{Incumbent, nothing, plan, Answer, best, none, stopped}
use Rattle.rules.specs.Requests.{Requests}
use Rattle.dutyfile.specs.File.{shape, added}
use Rattle.dutyfile.specs.Faults.{file_fault}
use Rattle.answer.specs.Answer.{values_of, shown_of}
use Rattle.search.specs.Searching.{call_fault, file_answer, searching, plan_list}
use Rattle.search.specs.Requests.{call_fault_with, fault_with, answer_with, searching_with, plan_list_with, longest_answer_with, longest_searching_with, longest_list_with}
use Rattle.line.specs.Line.{decimal_z, field, fields, words_of, line_of}
use Rattle.report.specs.Program.{program_line}
use Rattle.former.specs.File.{NotSpp2}
use Rattle.former.specs.Answers.{map_outcome, former_no_plan, former_priced, FormerValues, former_best, former_none, former_stopped, former_shown_of, former_values_of, signed_shown, signed_values}
use Rattle.former.specs.Searches.{former_fault_with, former_answer_with, former_searching_with, former_plan_list_with, former_longest_answer_with, former_longest_searching_with, former_longest_list_with}
use Rattle.former.specs.Searches.{former_file_answer, former_searching, former_plan_list, former_field, former_fields, former_words_of, former_line_of, former_program_line}
use Rattle.former.proofs.Outcomes.{same_outcome, same-filled}
use Rattle.former.proofs.Files.{former_fault, former_added, former_instance_lem, spp1_tests, former_spp1_fault, tested_other, tested_instance}

-- values from which nothing is taken off
shown_are : (k : Incumbent) → shown_of 0 k ≡ signed_shown (former_shown_of k)
unfolding shown_of former_shown_of
shown_are nothing = refl
shown_are (plan c js) = rw (add-zero c)

values_are : (x : Answer) → values_of 0 x ≡ signed_values (former_values_of x)
unfolding values_of former_values_of
values_are (best c b n js) = simp add-zero
values_are (none n) = refl
values_are (stopped k b n) = rw (shown_are k, add-zero b)

-- the line of an answer
field_is : (n : ℕ) → field (pos n) ≡ former_field n
unfolding field decimal_z former_field
field_is n = refl

line_is : (o : Outcome FormerValues) → line_of (map_outcome signed_values o) ≡ former_line_of o
unfolding line_of former_line_of words_of former_words_of fields former_fields map_outcome
line_is (accepted (former_best c b n k)) = simp field_is
line_is (accepted (former_none n)) = simp field_is
line_is (accepted (former_stopped b n former_no_plan)) = simp field_is
line_is (accepted (former_stopped b n (former_priced c k))) = simp field_is
line_is (refused k) = simp field_is

-- the searches for the least sum, over a file that does not begin with SPP2
module _ (s : List ℕ) (other : NotSpp2 s) (limit : ℕ) where
  values_same : (x y : Answer) → x ≡ y → values_of (added s) x ≡ signed_values (former_values_of y)
  values_same x y e = rw (former_added s other, e) (values_are y)

  -- the call
  module _ (q : Requests) (places : ℕ) where
    faults : fault_with s limit q places ≡ former_fault_with s limit q places
    unfolding fault_with former_fault_with
    faults = rw (former_fault s other)

    answers : fault_with s limit q places ≡ fine → answer_with s limit q ≡ former_answer_with s limit q
    unfolding fault_with answer_with former_answer_with
    answers e = rw (former_instance_lem s other (both _ _ e).0)

    pub former_searching_lem : searching_with s limit q places ≡ map_outcome signed_values (former_searching_with s limit q places)
    unfolding searching_with former_searching_with
    former_searching_lem = same_outcome (fault_with s limit q places) faults _ _ signed_values (λ e. values_same _ _ (answers e))

    pub former_plan_list_lem : (old : List ℕ) →
        filled (searching_with s limit q places) (plan_list_with s limit q) old ≡ filled (former_searching_with s limit q places) (former_plan_list_with s limit q) old
    unfolding searching_with former_searching_with plan_list_with former_plan_list_with
    former_plan_list_lem old = same-filled (fault_with s limit q places) faults _ _ old (λ e. rw (answers e))

  -- the search that the program makes
  pub former_file_answer_lem : file_fault s ≡ fine → file_answer s limit ≡ former_file_answer s limit
  unfolding file_answer former_file_answer
  former_file_answer_lem ok = rw (former_instance_lem s other ok)

  pub former_plain_searching : (places : ℕ) → searching s limit places ≡ map_outcome signed_values (former_searching s limit places)
  unfolding searching former_searching
  former_plain_searching places =
      same_outcome (file_fault s then call_fault (shape s) places limit) (rw (former_fault s other)) _ _ signed_values
      (λ e. values_same _ _ (former_file_answer_lem (both _ _ e).0))

  pub former_plain_list : (places : ℕ) (old : List ℕ) →
      filled (searching s limit places) (plan_list s limit) old ≡ filled (former_searching s limit places) (former_plan_list s limit) old
  unfolding searching former_searching plan_list former_plan_list
  former_plain_list places old =
      same-filled (file_fault s then call_fault (shape s) places limit) (rw (former_fault s other)) _ _ old (λ e. rw (former_file_answer_lem (both _ _ e).0))

-- what the program prints
pub former_program_line_lem : (s : List ℕ) → NotSpp2 s → program_line s ≡ former_program_line s
unfolding program_line former_program_line
former_program_line_lem s other = rw (former_plain_searching s other 1000000 64) (line_is _)

-- the search for the longest duty, over any file
module _ (s : List ℕ) (limit : ℕ) (q : Requests) (places : ℕ) where
  abbrev more : Fault
  more = call_fault_with (shape s) places limit q

  longest_answers : spp1_tests s more ≡ fine → longest_answer_with s limit q ≡ former_longest_answer_with s limit q
  unfolding longest_answer_with former_longest_answer_with
  longest_answers e = rw (tested_instance s more e)

  pub former_longest : longest_searching_with s limit q places ≡ map_outcome signed_values (former_longest_searching_with s limit q places)
  unfolding longest_searching_with former_longest_searching_with fault_with former_fault_with
  former_longest = same_outcome _ (former_spp1_fault s more) _ _ signed_values (λ e. values_same s (tested_other s more e) limit _ _ (longest_answers e))

  pub former_longest_list : (old : List ℕ) →
      filled (longest_searching_with s limit q places) (longest_list_with s limit q) old ≡ filled (former_longest_searching_with s limit q places) (former_longest_list_with s limit q) old
  unfolding longest_searching_with former_longest_searching_with fault_with former_fault_with longest_list_with former_longest_list_with
  former_longest_list old = same-filled _ (former_spp1_fault s more) _ _ old (λ e. rw (longest_answers e))
