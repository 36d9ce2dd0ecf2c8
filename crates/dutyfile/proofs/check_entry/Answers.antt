-- The tests of the column come first, then the one of the start.
use Rattle.std.specs.Prelude.{◌≡◌, ℕ, ℤ, Result, ◌<◌}
use Rattle.dutyfile.specs.declared.Edition.{Edition}
use Rattle.dutyfile.specs.declared.Entry.{Entry}
use Rattle.refusals.specs.declared.Refusal.{Refusal}
use mir.Val.{to_z, of_z}
use mir.Syntax.{w32}
use lib.Signed.{mag}
use mathlib.Core.Path.{sym, ◌∙◌}
use borrow.Author.Tests.{eq-eqb, ne_eqb}
use Rattle.refusals.specs.Refusals.{fault_of}
use Rattle.refusals.proofs.Laws.{continues, failed, fault_handed, passes, fails}
use Rattle.signed.proofs.Signs.{given}
use Rattle.dutyfile.specs.File.{cost_of}
use Rattle.dutyfile.specs.Faults.{column_fault, entry_fault}
use Rattle.dutyfile.proofs.check_entry.Goals as goal

-- the column was tested with the cost that the entry's bits stand for
told : (r : Result (Unit {0}) Refusal) (ed : Edition) (m t : ℕ) (e : Entry) (z : ℤ) → mag z < 2147483648 → z ≡ cost_of e →
    fault_of r ≡ column_fault ed m t (to_z w32 (of_z w32 z)) e.size → fault_of r ≡ column_fault ed m t (cost_of e) e.size
told r ed m t e z h q f = rw (given z h, q) at f

pub returns-then-e-columns : goal.returns-then-e-columns
unfolding fault_of entry_fault
returns-then-e-columns c =
    let column = told _ _ _ _ c.args.e _ c.from_bits-cost.type_inv c.from_bits-cost.ensures c.check_column.ensures in
    sym (continues column _ c.in_ok-check_column.was ∙ fails 7 (ne_eqb _ _ c.if-e-columns.true))

pub returns-in_err-check_column : goal.returns-in_err-check_column
unfolding entry_fault
returns-in_err-check_column c =
    let column = told _ _ _ _ c.args.e _ c.from_bits-cost.type_inv c.from_bits-cost.ensures c.check_column.ensures in
    fault_handed _ _ c.from_residual.ensures.1 _ (failed column _ c.in_err-check_column.was)

pub returns : goal.returns
unfolding fault_of entry_fault
returns c =
    let column = told _ _ _ _ c.args.e _ c.from_bits-cost.type_inv c.from_bits-cost.ensures c.check_column.ensures in
    sym (continues column _ c.in_ok-check_column.was ∙ passes 7 (eq-eqb _ _ c.if-e-columns.false))
