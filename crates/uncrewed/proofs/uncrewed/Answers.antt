-- A file that does not begin with SPP1 is refused first; then the clauses for either edition are those of the call.
use mathlib.Core.Path.{refl}
use Rattle.refusals.specs.Refusals.{filled}
use Rattle.refusals.proofs.Laws.{stops_at, goes_on, unless-fault}
use Rattle.dutyfile.proofs.Marks.{spp1_fails, spp1_passes}
use Rattle.uncrewed.specs.Answer.{uncrewed_outcome, uncrewing}
use Rattle.uncrewed.proofs.Called.{refused-tells}
use mathlib.Core.Path.{ap}
use mathlib.Core.Bool.{not}
use Rattle.uncrewed.proofs.uncrewed.Goals as goal

pub returns-then-not-begins : goal.returns-then-not-begins
unfolding uncrewed_outcome filled uncrewing
returns-then-not-begins c = let e = spp1_fails _ _ c.begins.ensures (ap not c.if-not-begins.true) in record { result_value = unless-fault _ 1 (stops_at 1 _ e); shown_after = refl; told = refused-tells _ _ _ _ }

pub returns : goal.returns
unfolding uncrewing
returns c =
    let e = spp1_passes c.args.file.now _ c.begins.ensures (ap not c.if-not-begins.false) in
    record { result_value = rw (goes_on _ e) c.uncrewed_file.ensures.result_value; shown_after = c.uncrewed_file.ensures.shown_after; told = c.uncrewed_file.ensures.told }
