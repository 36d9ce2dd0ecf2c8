-- A file that does not begin with SPP1 is refused first; then the clauses for either edition are those of the call.
use mathlib.Core.Path.{refl}
use Rattle.refusals.specs.Refusals.{outcome, filled}
use Rattle.refusals.proofs.Laws.{stops_at, goes_on, unless-fault}
use Rattle.dutyfile.proofs.Marks.{spp1_fails, spp1_passes}
use Rattle.reduce.specs.Answer.{reducing}
use mathlib.Core.Path.{ap}
use mathlib.Core.Bool.{not}
use Rattle.reduce.proofs.reduce.Goals as goal

pub returns-then-not-begins : goal.returns-then-not-begins
unfolding outcome filled reducing
returns-then-not-begins c = let e = spp1_fails _ _ c.begins.ensures (ap not c.if-not-begins.true) in record { result_value = unless-fault _ 1 (stops_at 1 _ e); reduced_after = refl; order_after = refl }

pub returns : goal.returns
unfolding reducing
returns c =
    let e = spp1_passes c.args.file.now _ c.begins.ensures (ap not c.if-not-begins.false) in
    record { result_value = rw (goes_on _ e) c.reduce_file.ensures.result_value; reduced_after = c.reduce_file.ensures.reduced_after; order_after = c.reduce_file.ensures.order_after }
