-- The file is examined, then the offered list; where both pass, the counts and the cost are those of the choice that is named.
use Rattle.std.proofs.Common.{◌≡◌, ◌≤◌, Bool, List, ℕ, sym, ap, ◌∙◌, arith}
use Rattle.refusals.specs.Refusals.{fine, outcome, accepted, unless}
use Rattle.refusals.proofs.Laws.{accepts, handed_on}
use Rattle.signed.proofs.Signs.{given}
use Rattle.dutyfile.specs.File.{shape, rows_in, columns_in}
use Rattle.dutyfile.specs.declared.Shape.{Shape}
use Rattle.dutyfile.specs.Faults.{rising, file_fault}
use Rattle.dutyfile.proofs.Facts.{file-fine}
use Rattle.dutyfile.proofs.Rising.{as_they_are}
use Rattle.verify.proofs.Walk.{offered}
use Rattle.verify.proofs.Verdicts.{verdict-is, checking-refused, checking-not-rising, checking-done}
use Rattle.verify.proofs.check_plan.Goals as goal

-- what an accepted file's shape says
record Examined (s js : List ℕ) (h : Shape) (t : Bool) : Type 0 where
  passes : file_fault s ≡ fine
  rows_is : h.rows ≡ rows_in s
  few : h.rows ≤ 64
  rises : rising 0 (columns_in s) js ≡ t

examined : (s js : List ℕ) (h : Shape) (b t : Bool) → accepted h ≡ unless (file_fault s) (shape s) → b ≡ rising 0 h.columns js → b ≡ t → Examined s js h t
unfolding shape
examined s js h b t e r q =
    let a = accepts _ _ _ (sym e) in
    let m : h.rows ≡ rows_in s = ap (λ (x : Shape). x.rows) (sym a.1) in
    let n : h.columns ≡ columns_in s = ap (λ (x : Shape). x.columns) (sym a.1) in
    record {
      passes = a.0;
      rows_is = m;
      few = omega (arith, m, (file-fine _ a.0).walked.header.counts.rows.most);
      rises = ap (λ k. rising 0 k js) (sym n) ∙ sym r ∙ q;
    }

pub returns-in_err-shape : goal.returns-in_err-shape
unfolding outcome
returns-in_err-shape c = rw (handed_on _ _ c.from_residual.ensures.1) (checking-refused _ _ _ c.in_err-shape.ensures)

pub returns-then-not-rises : goal.returns-then-not-rises
unfolding outcome
returns-then-not-rises c =
    let x = examined _ _ _ _ _ c.in_ok-shape.ensures (as_they_are _ _ _ c.rises.ensures) c.if-not-rises.true in
    checking-not-rising _ _ x.passes x.rises

pub cover_counts-covered-requires : goal.cover_counts-covered-requires
unfolding outcome
cover_counts-covered-requires c =
    let x = examined _ _ _ _ _ c.in_ok-shape.ensures (as_they_are _ _ _ c.rises.ensures) c.if-not-rises.false in
    record { file_value = x.passes; columns_value = x.rises }

pub total_cost-requires : goal.total_cost-requires
unfolding outcome
total_cost-requires c =
    let x = examined _ _ _ _ _ c.in_ok-shape.ensures (as_they_are _ _ _ c.rises.ensures) c.if-not-rises.false in
    record { file_value = x.passes; columns_value = x.rises }

pub judge-requires : goal.judge-requires
unfolding outcome
judge-requires c = (examined _ _ _ _ _ c.in_ok-shape.ensures (as_they_are _ _ _ c.rises.ensures) c.if-not-rises.false).few

pub returns : goal.returns
unfolding outcome
returns c =
    let x = examined _ _ _ _ _ c.in_ok-shape.ensures (as_they_are _ _ _ c.rises.ensures) c.if-not-rises.false in
    let t = c.total_cost in
    ap accepted
    (c.judge.ensures
    ∙ verdict-is _ _ (offered _ _ x.passes x.rises) _ _ _ c.cover_counts-covered.ensures (given _ t.type_inv ∙ t.ensures) x.rows_is)
    ∙ checking-done _ _ x.passes x.rises
