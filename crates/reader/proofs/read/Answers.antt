-- A file is examined, then the lists' room; only where both pass are the lists filled.
use mathlib.Core.Path.{ap, ◌∙◌}
use Rattle.refusals.specs.Refusals.{outcome, filled}
use Rattle.refusals.proofs.Laws.{failed, passed, keeps, handed_on}
use Rattle.reader.proofs.Rooms.{reading-refused, reading-short, reading-done, roomy}
use Rattle.reader.proofs.read.Goals as goal

pub fill_columns-requires : goal.fill_columns-requires
unfolding outcome
fill_columns-requires c =
    let r = roomy _ _ _ _ _ c.in_ok-found.ensures (passed c.check_rooms.ensures c.in_ok-check_rooms.was) in
    record { file_value = r.header; file_in_bounds = r.costs; file_in_bounds_2 = r.lengths }

pub fill_rows-requires : goal.fill_rows-requires
unfolding outcome
fill_rows-requires c =
    let r = roomy _ _ _ _ _ c.in_ok-found.ensures (passed c.check_rooms.ensures c.in_ok-check_rooms.was) in
    record { file_value = r.header; file_in_bounds = r.rows }

pub returns-in_err-found : goal.returns-in_err-found
unfolding outcome filled
returns-in_err-found c =
    let o = ap outcome (handed_on _ _ c.from_residual.ensures.1) in
    record { result_value = o ∙ reading-refused _ _ _ _ _ c.in_err-found.ensures; costs_after = keeps _ _ _ o; lengths_after = keeps _ _ _ o; rows_after = keeps _ _ _ o }

pub returns-in_err-check_rooms : goal.returns-in_err-check_rooms
unfolding outcome filled
returns-in_err-check_rooms c =
    let o = ap outcome (handed_on _ _ c.from_residual-in_err-check_rooms.ensures.1) in
    record {
      result_value = o ∙ reading-short _ _ _ _ _ c.in_ok-found.ensures _ (failed c.check_rooms.ensures _ c.in_err-check_rooms.was);
      costs_after = keeps _ _ _ o;
      lengths_after = keeps _ _ _ o;
      rows_after = keeps _ _ _ o;
    }

pub returns : goal.returns
unfolding outcome filled
returns c = record {
  result_value = reading-done _ _ _ _ _ c.in_ok-found.ensures (passed c.check_rooms.ensures c.in_ok-check_rooms.was);
  costs_after = c.fill_columns.ensures.costs_after;
  lengths_after = c.fill_columns.ensures.lengths_after;
  rows_after = c.fill_rows.ensures;
}
