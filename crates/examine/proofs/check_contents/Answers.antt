-- The entries that are left, with the rows so far, come to what the whole contents come to.
use mathlib.Core.Path.{◌≡◌}
use mathlib.Core.List.{[]}
use Prim.Native.Nat.{◌+◌}
use native.Mathlib.Omega.{arith}
use lib.ListN.{get_or, drop}
use Rattle.refusals.specs.Refusals.{outcome}
use Rattle.refusals.proofs.Laws.{failed, passed, handed_on}
use Rattle.dutyfile.proofs.Facts.{header-fine}
use Rattle.dutyfile.specs.File.{bodies_at, entry_of}
use Rattle.dutyfile.specs.declared.Entry.{Entry}
use Rattle.contents.proofs.Table.{table_at}
use Rattle.examine.proofs.Entries.{Walking, walking_start, walking_stop, walking_next, walking_end}
use Rattle.examine.proofs.check_contents.Goals as goal

pub row_count-rows-requires : goal.row_count-rows-requires
row_count-rows-requires c = (header-fine _ c.requires).long

pub column_count-columns-requires : goal.column_count-columns-requires
column_count-columns-requires c = (header-fine _ c.requires).long

pub entries-table-requires : goal.entries-table-requires
entries-table-requires c = (c.requires, c.column_count-columns.ensures)

pub loop-j-init : goal.loop-j-init
loop-j-init c = walking_start _ _ _ _ c.requires c.edition_in-edition.ensures c.row_count-rows.ensures c.column_count-columns.ensures

pub bounds-table-j : goal.bounds-table-j
bounds-table-j c =
    let w = c.loop-j.invariant in
    omega (arith, w.header.counts.columns.most, w.columns_is)

pub offset_bounds-table-j : goal.offset_bounds-table-j
offset_bounds-table-j c = (let w = c.loop-j.invariant in omega (arith, w.header.counts.columns.most, w.columns_is))

pub check_entry-requires : goal.check_entry-requires
check_entry-requires c =
    let w = c.loop-j.invariant in
    omega (arith, w.header.counts.columns.most, w.columns_is)

pub returns-in_err-check_entry : goal.returns-in_err-check_entry
unfolding outcome
returns-in_err-check_entry c =
    let read : (d : Entry) →
    get_or c.entries-table.result c.loop-j.j d ≡ entry_of (drop (bodies_at c.loop-j.j) c.args.file.now) = λ d. table_at _ _ _ c.loop-j.invariant.columns_is c.entries-table.ensures _ d c.loop-j-test.true in
    rw (handed_on _ _ c.from_residual.ensures.1)
    (walking_stop _ _ _ _ _ _ c.loop-j.invariant c.loop-j-test.true _ (read _) _
    (failed c.check_entry.ensures _ c.in_err-check_entry.was))

pub overflow_add-total : goal.overflow_add-total
overflow_add-total c =
    let next : Walking c.args.file.now
    c.edition_in-edition.result
    c.row_count-rows.result
    c.column_count-columns.result
    (c.loop-j.total
    + (get_or c.entries-table.result c.loop-j.j (entry_of [])).size)
    (c.loop-j.j + 1) = let read : (d : Entry) →
    get_or c.entries-table.result c.loop-j.j d ≡ entry_of (drop (bodies_at c.loop-j.j) c.args.file.now) = λ d. table_at _ _ _ c.loop-j.invariant.columns_is c.entries-table.ensures _ d c.loop-j-test.true in
    walking_next _ _ _ _ _ _ c.loop-j.invariant c.loop-j-test.true _ (read _)
    (passed c.check_entry.ensures c.in_ok-check_entry.was) in
    omega (arith, next.small)

pub loop-j-preserved : goal.loop-j-preserved
loop-j-preserved c =
    let next : Walking c.args.file.now
    c.edition_in-edition.result
    c.row_count-rows.result
    c.column_count-columns.result
    (c.loop-j.total
    + (get_or c.entries-table.result c.loop-j.j (entry_of [])).size)
    (c.loop-j.j + 1) = let read : (d : Entry) →
    get_or c.entries-table.result c.loop-j.j d ≡ entry_of (drop (bodies_at c.loop-j.j) c.args.file.now) = λ d. table_at _ _ _ c.loop-j.invariant.columns_is c.entries-table.ensures _ d c.loop-j-test.true in
    walking_next _ _ _ _ _ _ c.loop-j.invariant c.loop-j-test.true _ (read _)
    (passed c.check_entry.ensures c.in_ok-check_entry.was) in
    next

pub returns : goal.returns
unfolding outcome
returns c = walking_end _ _ _ _ _ _ c.loop-j.invariant c.loop-j-test.false
