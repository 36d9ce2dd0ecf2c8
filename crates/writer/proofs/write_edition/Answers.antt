-- The lists are tested, then the buffer's room; only where both pass is the file written.
use mathlib.Core.Path.{refl}
use native.Mathlib.Omega.{arith}
use Rattle.refusals.specs.Refusals.{outcome, filled}
use Rattle.refusals.proofs.Laws.{handed_on}
use Rattle.writer.proofs.Tested.{writing-refused, writing-fine, writing-size, writing-short, writing-done}
use Rattle.writer.proofs.write_edition.Goals as goal

pub returns-in_err-size : goal.returns-in_err-size
unfolding outcome filled
returns-in_err-size c =
    rw (handed_on _ _ c.from_residual.ensures.1) (record { result_value = writing-refused _ _ _ c.in_err-size.ensures; out_after = refl })

pub returns-then-out-size : goal.returns-then-out-size
unfolding outcome filled
returns-then-out-size c = record { result_value = writing-short _ _ _ c.in_ok-size.ensures c.if-out-size.true; out_after = refl }

pub put_file-requires : goal.put_file-requires
unfolding outcome
put_file-requires c = record { lists_pass = writing-fine _ 0 _ c.in_ok-size.ensures; file_fits = omega (arith, writing-size _ 0 _ c.in_ok-size.ensures, c.if-out-size.false) }

pub returns : goal.returns
unfolding outcome filled
returns c = record { result_value = writing-done _ _ _ c.in_ok-size.ensures c.if-out-size.false; out_after = c.put_file.ensures }
