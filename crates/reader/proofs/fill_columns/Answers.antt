-- The places that are left in both lists, filled from the entries that are left, give what all of them give.
use mathlib.Core.Path.{refl, ◌∙◌}
use native.Mathlib.Omega.{arith}
use Rattle.signed.proofs.Signs.{given}
use Rattle.dutyfile.specs.File.{cost_of, size_of, parse}
use Rattle.dutyfile.proofs.Facts.{header-fine}
use Rattle.contents.proofs.Table.{table_at}
use Rattle.reader.proofs.Filled.{filling_start, filling_next, filling_end}
use Rattle.reader.proofs.fill_columns.Goals as goal

pub column_count-columns-requires : goal.column_count-columns-requires
column_count-columns-requires c = (header-fine _ c.requires.file_value).long

pub entries-table-requires : goal.entries-table-requires
entries-table-requires c = (c.requires.file_value, c.column_count-columns.ensures)

pub loop-k-init : goal.loop-k-init
loop-k-init c =
    let n = c.column_count-columns.ensures in
    (filling_start cost_of _ _ _ c.requires.file_value c.requires.file_in_bounds n, filling_start size_of _ _ _ c.requires.file_value c.requires.file_in_bounds_2 n)

pub bounds-table-k : goal.bounds-table-k
bounds-table-k c =
    let w = c.loop-k.invariant.0 in
    omega (arith, w.header.counts.columns.most, w.columns_is)

pub offset_bounds-table-k : goal.offset_bounds-table-k
offset_bounds-table-k c = (let w = c.loop-k.invariant.0 in omega (arith, w.header.counts.columns.most, w.columns_is))

pub loop-k-preserved : goal.loop-k-preserved
loop-k-preserved c =
    let w = c.loop-k.invariant in
    let is = table_at _ _ _ w.0.columns_is c.entries-table.ensures _ _ c.loop-k-test.true in (
      filling_next cost_of _ _ _ _ _ w.0 c.loop-k-test.true _ is _ (given _ c.from_bits-cost.type_inv ∙ c.from_bits-cost.ensures),
      filling_next size_of _ _ _ _ _ w.1 c.loop-k-test.true _ is _ refl,
    )

pub returns : goal.returns
unfolding parse
returns c = let w = c.loop-k.invariant in record { costs_after = filling_end cost_of _ _ _ _ _ w.0 c.loop-k-test.false; lengths_after = filling_end size_of _ _ _ _ _ w.1 c.loop-k-test.false }
