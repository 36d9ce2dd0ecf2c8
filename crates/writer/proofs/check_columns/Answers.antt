use mathlib.Core.Path.{◌≡◌, refl, sym}
use Rattle.std.specs.Prelude.{ℕ, ℤ, Result}
use Rattle.std.proofs.Common.{rules, w32, SFits, to_z, of_z, to_z-of_z}
use Rattle.std.proofs.lemmas.Iterator.{empty_from_Zip}
use Rattle.refusals.specs.Refusals.{outcome, fault_of}
use Rattle.refusals.specs.declared.Refusal.{Refusal}
use Rattle.refusals.proofs.Laws.{failed, passed, handed_on}
use Rattle.dutyfile.specs.declared.Edition.{Edition}
use Rattle.dutyfile.specs.Faults.{column_fault}
use Rattle.writer.proofs.Columns.{walking_start, walking_stop, walking_next, walking_end}
use Rattle.writer.proofs.check_columns.Goals as goal

-- the column was tested with the cost that its bits stand for
told : (r : Result (Unit {0}) Refusal) (ed : Edition) (m t : ℕ) (z : ℤ) (l : ℕ) → SFits w32 z →
    fault_of r ≡ column_fault ed m t (to_z w32 (of_z w32 z)) l → fault_of r ≡ column_fault ed m t z l
told r ed m t z l f e = rw (to_z-of_z f) at e

pub loop-cost-init : goal.loop-cost-init
loop-cost-init c = walking_start _ _ _ _ _ _ c.requires (search rules) (search rules)

pub returns-in_err-check_column : goal.returns-in_err-check_column
unfolding outcome
returns-in_err-check_column c =
    let column = told _ _ _ _ c.in-Some.field-0-0.now _ (search rules) c.check_column.ensures in
    let i = c.in-Some.ensures.steps in
    rw (handed_on _ _ c.from_residual.ensures.1) (walking_stop _ _ c.loop-cost.invariant i.0 i.1 _ (failed column _ c.in_err-check_column.was))

pub loop-cost-preserved : goal.loop-cost-preserved
loop-cost-preserved c =
    let column = told _ _ _ _ c.in-Some.field-0-0.now _ (search rules) c.check_column.ensures in
    let i = c.in-Some.ensures.steps in
    rw c.from-total.ensures (walking_next _ _ c.loop-cost.invariant i.0 i.1 (passed column c.in_ok-check_column.was))

pub returns : goal.returns
unfolding outcome
returns c =
    let i = c.in-None.ensures.steps in
    let none = empty_from_Zip _ c.next.new.self _ refl i (sym c.loop-cost.invariant.same) in
    walking_end _ _ c.loop-cost.invariant none.0 none.1
