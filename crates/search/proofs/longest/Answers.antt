-- A file that does not begin with SPP1 is refused first; then the clauses for the longest duty are those of the call.
use mathlib.Core.Path.{◌≡◌, refl}
use mathlib.Core.Bool.{not}
use Rattle.refusals.specs.Refusals.{fine, filled}
use Rattle.refusals.proofs.Laws.{stops_at, goes_on, unless-fault, refused_none}
use Rattle.rules.specs.Goals.{search_for}
use Rattle.dutyfile.specs.Faults.{spp1_fault}
use Rattle.dutyfile.proofs.Marks.{spp1_fails, spp1_passes}
use Rattle.answer.specs.Answer.{search_outcome}
use Rattle.search.specs.Requests.{longest_answer_with, longest_searching_with, longest_list_with}
use Rattle.search.specs.Goals.{answer_for, searching_for, list_for, priced_for}
use Rattle.search.proofs.Called.{first_fine}
use mathlib.Core.Path.{ap}
use Rattle.search.proofs.longest.Goals as goal

pub returns-then-not-begins : goal.returns-then-not-begins
unfolding search_outcome filled longest_searching_with
returns-then-not-begins c = let e = spp1_fails _ _ c.begins.ensures (ap not c.if-not-begins.true) in record { result_value = unless-fault _ 1 (stops_at 1 _ e); plan_after = refl; signed_demand3 = λ v e. absurd (refused_none _ v e) }

pub search_for-requires : goal.search_for-requires
search_for-requires c =
    let first : spp1_fault c.args.file.now ≡ fine = spp1_passes _ _ c.begins.ensures (ap not c.if-not-begins.false) in
    first_fine _ _ first

pub returns : goal.returns
unfolding search_for priced_for answer_for searching_for list_for longest_answer_with longest_searching_with longest_list_with
returns c =
    let first : spp1_fault c.args.file.now ≡ fine = spp1_passes _ _ c.begins.ensures (ap not c.if-not-begins.false) in
    record { result_value = rw (goes_on _ first) c.search_for.ensures.result_value; plan_after = c.search_for.ensures.plan_after; signed_demand3 = c.search_for.ensures.demand_for }
