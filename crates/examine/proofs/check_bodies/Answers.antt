-- The bodies that are left come to what all of them come to.
use mathlib.Core.Path.{◌≡◌}
use mathlib.Core.List.{[]}
use native.Mathlib.Omega.{arith}
use lib.ListN.{get_or, drop}
use Rattle.refusals.specs.Refusals.{fault_of}
use Rattle.dutyfile.specs.File.{bodies_at, entry_of}
use Rattle.dutyfile.specs.declared.Entry.{Entry}
use Rattle.dutyfile.proofs.Facts.{header-fine}
use Rattle.dutyfile.proofs.Rising.{as_they_are}
use Rattle.dutyfile.proofs.Columns.{ColumnAt}
use Rattle.contents.proofs.Table.{table_at}
use Rattle.examine.proofs.Bodies.{testing_start, testing_column, testing_stop, testing_next, testing_end}
use Rattle.examine.proofs.check_bodies.Goals as goal

pub row_count-rows-requires : goal.row_count-rows-requires
row_count-rows-requires c = (header-fine _ c.requires.file_value).long

pub column_count-columns-requires : goal.column_count-columns-requires
column_count-columns-requires c = (header-fine _ c.requires.file_value).long

pub entries-table-requires : goal.entries-table-requires
entries-table-requires c = (c.requires.file_value, c.column_count-columns.ensures)

pub loop-j-init : goal.loop-j-init
loop-j-init c = testing_start _ _ _ c.requires.file_value c.requires.file_value_2 c.requires.file_value_3 c.row_count-rows.ensures c.column_count-columns.ensures

pub bounds-table-j : goal.bounds-table-j
bounds-table-j c =
    let w = c.loop-j.invariant in
    omega (arith, w.walked.header.counts.columns.most, w.columns_is)

pub offset_bounds-table-j : goal.offset_bounds-table-j
offset_bounds-table-j c = (let w = c.loop-j.invariant in omega (arith, w.walked.header.counts.columns.most, w.columns_is))

pub overflow_add-end : goal.overflow_add-end
overflow_add-end c =
    let column : (d : Entry) →
    ColumnAt c.args.file.now c.loop-j.j (get_or c.entries-table.result c.loop-j.j d) = λ d. let read : (d : Entry) →
    get_or c.entries-table.result c.loop-j.j d ≡ entry_of (drop (bodies_at c.loop-j.j) c.args.file.now) = λ d. table_at _ _ _ c.loop-j.invariant.columns_is c.entries-table.ensures _ d c.loop-j-test.true in
    testing_column _ _ _ _ c.loop-j.invariant c.loop-j-test.true _ (read d) in
    omega (arith, (column (entry_of [])).inside)

pub slice_bounds-rises-end : goal.slice_bounds-rises-end
slice_bounds-rises-end c =
    let column : (d : Entry) →
    ColumnAt c.args.file.now c.loop-j.j (get_or c.entries-table.result c.loop-j.j d) = λ d. let read : (d : Entry) →
    get_or c.entries-table.result c.loop-j.j d ≡ entry_of (drop (bodies_at c.loop-j.j) c.args.file.now) = λ d. table_at _ _ _ c.loop-j.invariant.columns_is c.entries-table.ensures _ d c.loop-j-test.true in
    testing_column _ _ _ _ c.loop-j.invariant c.loop-j-test.true _ (read d) in
    omega (arith, (column (entry_of [])).inside)

pub returns-then-not-rises : goal.returns-then-not-rises
unfolding fault_of
returns-then-not-rises c =
    let read : (d : Entry) →
    get_or c.entries-table.result c.loop-j.j d ≡ entry_of (drop (bodies_at c.loop-j.j) c.args.file.now) = λ d. table_at _ _ _ c.loop-j.invariant.columns_is c.entries-table.ensures _ d c.loop-j-test.true in
    testing_stop _ _ _ _ c.loop-j.invariant c.loop-j-test.true _ (read _) _ (as_they_are _ _ _ c.rises.ensures) (c.if-not-rises.true)

pub loop-j-preserved : goal.loop-j-preserved
loop-j-preserved c =
    let read : (d : Entry) →
    get_or c.entries-table.result c.loop-j.j d ≡ entry_of (drop (bodies_at c.loop-j.j) c.args.file.now) = λ d. table_at _ _ _ c.loop-j.invariant.columns_is c.entries-table.ensures _ d c.loop-j-test.true in
    testing_next _ _ _ _ c.loop-j.invariant c.loop-j-test.true _ (read _) _ (as_they_are _ _ _ c.rises.ensures) (c.if-not-rises.false)

pub returns : goal.returns
unfolding fault_of
returns c = testing_end _ _ _ _ c.loop-j.invariant c.loop-j-test.false
