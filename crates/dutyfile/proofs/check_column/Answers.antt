-- The cost is tested first.
use mathlib.Core.Path.{◌≡◌, sym, ◌∙◌}
use mathlib.Core.Bool.{true, false}
use borrow.Author.Tests.{le-leb, lt-leb}
use mir.Facts.{to_z-of_z}
use Rattle.refusals.specs.Refusals.{fault_of, ask, ◌then◌}
use Rattle.dutyfile.specs.Faults.{is_cost, column_fault}
use Rattle.dutyfile.proofs.check_column.Goals as goal

pub returns-then-not-is_cost : goal.returns-then-not-is_cost
unfolding fault_of column_fault ask ◌then◌
returns-then-not-is_cost c =
    let is_none : c.is_cost.result ≡ false → is_cost c.args.edition c.args.cost ≡ false = λ h. let tested : c.is_cost.result ≡ is_cost c.args.edition c.args.cost = rw (to_z-of_z c.ranges.cost) at c.is_cost.ensures in
    sym tested ∙ h in
    simp (column_fault, is_none c.if-not-is_cost.true)

pub returns-then-size-lt1 : goal.returns-then-size-lt1
unfolding fault_of column_fault ask ◌then◌
returns-then-size-lt1 c =
    let is_one : c.is_cost.result ≡ true → is_cost c.args.edition c.args.cost ≡ true = λ h. let tested : c.is_cost.result ≡ is_cost c.args.edition c.args.cost = rw (to_z-of_z c.ranges.cost) at c.is_cost.ensures in
    sym tested ∙ h in
    simp (column_fault, is_one c.if-not-is_cost.false, lt-leb _ _ c.if-size-lt1.true)

pub returns-then-rows-size : goal.returns-then-rows-size
unfolding fault_of column_fault ask ◌then◌
returns-then-rows-size c =
    let is_one : c.is_cost.result ≡ true → is_cost c.args.edition c.args.cost ≡ true = λ h. let tested : c.is_cost.result ≡ is_cost c.args.edition c.args.cost = rw (to_z-of_z c.ranges.cost) at c.is_cost.ensures in
    sym tested ∙ h in
    simp (column_fault, is_one c.if-not-is_cost.false, le-leb _ _ c.if-size-lt1.false, lt-leb _ _ c.if-rows-size.true)

pub returns-then-total-size-gt4096 : goal.returns-then-total-size-gt4096
unfolding fault_of column_fault ask ◌then◌
returns-then-total-size-gt4096 c =
    let is_one : c.is_cost.result ≡ true → is_cost c.args.edition c.args.cost ≡ true = λ h. let tested : c.is_cost.result ≡ is_cost c.args.edition c.args.cost = rw (to_z-of_z c.ranges.cost) at c.is_cost.ensures in
    sym tested ∙ h in
    simp (column_fault, is_one c.if-not-is_cost.false, le-leb _ _ c.if-size-lt1.false, le-leb _ _ c.if-rows-size.false, lt-leb _ _ c.if-total-size-gt4096.true)

pub returns : goal.returns
unfolding fault_of column_fault ask ◌then◌
returns c =
    let is_one : c.is_cost.result ≡ true → is_cost c.args.edition c.args.cost ≡ true = λ h. let tested : c.is_cost.result ≡ is_cost c.args.edition c.args.cost = rw (to_z-of_z c.ranges.cost) at c.is_cost.ensures in
    sym tested ∙ h in
    simp (column_fault, is_one c.if-not-is_cost.false, le-leb _ _ c.if-size-lt1.false, le-leb _ _ c.if-rows-size.false, le-leb _ _ c.if-total-size-gt4096.false)
