-- The call that finds which sailings can't be crewed gives the answers of before over any file.
use mathlib.Core.Path.{◌≡◌, refl}
use mathlib.Core.List.{List, [], map, map-append}
use Prim.Native.Nat.{ℕ, zero, suc, ◌+◌, ◌-◌, ◌≤◌}
use native.Mathlib.Omega.{arith}
use borrow.Author.Tests.{leb-true}
use lib.IntN.{pos}
use lib.ListN.{replicate, length-map}
use Rattle.endian.specs.Bytes.{same}
use Rattle.refusals.specs.Refusals.{Fault, fine, filled}
use Rattle.refusals.proofs.Laws.{both, asked, unless-same}
use Rattle.rules.specs.Search.{nothing, plan, Answer, best, none, stopped}
use Rattle.dutyfile.specs.File.{columns_in, parse, render, shape}
use Rattle.dutyfile.proofs.Entries.{length-costs}
use Rattle.dutyfile.proofs.Facts.{file-fine}
use Rattle.dutyfile.proofs.Round.{lists-fine, lists-pass, reads_back}
use Rattle.trials.specs.Trials.{extended, trial, Finding, judged, trials_from, finding}
use Rattle.trials.proofs.Extended.{Extendable, extended_passing}
use Rattle.uncrewed.specs.Answer.{trials_fault, uncrewed_fault, file_uncrewed_fault, uncrewing, uncrewed_list}
use Rattle.former.specs.File.{NotSpp2, FormerLists, former_parse, former_header, former_render}
use Rattle.former.specs.Answers.{signed_lists}
use Rattle.former.specs.Trials.{former_extended, former_trial, former_trials_from, former_finding, former_uncrewing, former_uncrewed_list}
use Rattle.former.proofs.Outcomes.{same-filled}
use Rattle.former.proofs.Files.{former_lists_lem, spp1_tests, former_spp1_fault, tested_other, tested_file}
use Rattle.former.proofs.Writer.{former_render_lem}
use Rattle.former.proofs.Searches.{former_file_answer_lem}

-- the file of a trial
written_other : (d : FormerLists) → NotSpp2 (former_render d)
unfolding same former_render former_header
written_other d = refl

ones_are : (e : ℕ) → map pos (replicate e 1) ≡ replicate e (pos 1)
ones_are zero = refl
ones_are (suc e) = rw (ones_are e)

extended-is : (k : ℕ) (d : FormerLists) → extended k (signed_lists d) ≡ signed_lists (former_extended k d)
unfolding extended former_extended
extended-is k d = rw (map-append pos d.costs (replicate (d.rows - k) 1), ones_are (d.rows - k))

-- what comes after a trial matters only by its findings
judged-same : (k : ℕ) (shown : List ℕ) (x : Answer) (f g : List ℕ → Finding) → ((js : List ℕ) → f js ≡ g js) → judged k shown x f ≡ judged k shown x g
unfolding judged
judged-same k shown (none n) f g h = refl
judged-same k shown (stopped nothing b n) f g h = refl
judged-same k shown (stopped (plan c js) b n) f g h = h js
judged-same k shown (best c b n js) f g h = h js

module _ (d : FormerLists) (x : Extendable (signed_lists d)) (limit : ℕ) where
  trial-is : (k : ℕ) → 1 ≤ k → k ≤ d.rows → trial (signed_lists d) limit k ≡ former_trial d limit k
  unfolding trial former_trial
  trial-is k one low =
      let written : render (extended k (signed_lists d)) ≡ former_render (former_extended k d) = rw (extended-is k d) (former_render_lem (former_extended k d)) in
      let back = reads_back (extended k (signed_lists d)) (extended_passing (signed_lists d) x k one low) in
      rw written (former_file_answer_lem _ (written_other (former_extended k d)) limit (rw written at back.passes))

  trials_are : (n k : ℕ) (shown : List ℕ) → 1 ≤ k → n + k ≤ suc d.rows → trials_from (signed_lists d) limit n k shown ≡ former_trials_from d limit n k shown
  unfolding trials_from former_trials_from
  trials_are zero k shown one low = refl
  trials_are (suc n) k shown one low =
      rw (trial-is k one (omega arith), length-map d.costs pos)
      (judged-same k shown (former_trial d limit k) _ _ (λ js. trials_are n (suc k) _ (omega arith) (omega arith)))

  pub former_finding_lem : finding (signed_lists d) limit ≡ former_finding d limit
  unfolding finding former_finding
  former_finding_lem = trials_are d.rows 1 [] (omega arith) (omega arith)

-- the call: what it answers, and its list afterwards
module _ (s : List ℕ) (limit places : ℕ) where
  abbrev more : Fault
  more = uncrewed_fault (shape s) places limit

  module _ (e : spp1_tests s more ≡ fine) where
    fits : trials_fault (shape s) ≡ fine
    unfolding uncrewed_fault
    fits = (both _ _ (both _ _ (both _ _ e).1).1).0

    extendable : Extendable (parse s)
    unfolding trials_fault shape parse
    extendable =
        let b = both _ _ fits in
        record {
          passes = lists-fine (parse s) (lists-pass s (file-fine s (tested_file s more e)));
          few = omega (arith, length-costs s, leb-true (columns_in s) 192 (asked _ 18 b.0));
          full = leb-true _ 4096 (asked _ 6 b.1);
        }

    findings : finding (parse s) limit ≡ former_finding (former_parse s) limit
    findings =
        let is = former_lists_lem s (tested_other s more e) (tested_file s more e) in
        rw is (former_finding_lem (former_parse s) (rw is at extendable) limit)

  pub former_uncrewing_lem : uncrewing s limit places ≡ former_uncrewing s limit places
  unfolding uncrewing file_uncrewed_fault former_uncrewing
  former_uncrewing_lem = rw (← former_spp1_fault s more) (unless-same (spp1_tests s more) _ _ (λ e. rw (findings e)))

  pub former_uncrewed_list_lem : (old : List ℕ) →
      filled (uncrewing s limit places) (uncrewed_list s limit) old ≡ filled (former_uncrewing s limit places) (former_uncrewed_list s limit) old
  unfolding uncrewing file_uncrewed_fault former_uncrewing uncrewed_list former_uncrewed_list
  former_uncrewed_list_lem old = same-filled _ (former_spp1_fault s more) _ _ old (λ e. rw (findings e))
