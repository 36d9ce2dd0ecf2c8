-- After any list of steps from an empty desk over one accepted file, the reply is that of the plan check of the columns that are then in.
use mathlib.Core.Path.{◌≡◌, refl, sym, ap, ◌∙◌}
use mathlib.Core.Bool.{Bool, true, false, not, cond, and-true}
use mathlib.Core.List.{List, [], ◌∷◌, map}
use Prim.Native.Nat.{ℕ, zero, suc, ◌-◌, ◌≤◌, ◌<◌}
use native.Mathlib.Nat.{zero-add}
use native.Mathlib.Omega.{arith}
use borrow.Author.Tests.{eqb-true, eqb-false, eq-eqb, ne_eqb}
use lib.Dec.{eqb, eqb-suc-suc}
use lib.IntN.{ℤ}
use lib.ListN.{get_or}
use Rattle.refusals.specs.Refusals.{Fault, fine, fault, accepted}
use Rattle.std.specs.Prelude.{Some, None}
use Rattle.node.specs.Lists.{keep, upto, on}
use Rattle.node.specs.Matrix.{Matrix, width, count, signed_price, IsPlan, named}
use Rattle.node.proofs.Members.{member-keep, member-upto}
use Rattle.rules.proofs.Sums.{total-one, total-zero, count_same}
use Rattle.dutyfile.specs.File.{rows_in, columns_in, parse, instance, bodies}
use Rattle.dutyfile.specs.Faults.{file_fault, rows_fault}
use Rattle.dutyfile.proofs.Facts.{Accepted, file-fine}
use Rattle.dutyfile.proofs.Columns.{file-width}
use Rattle.dutyfile.proofs.Rising.{bodies-rise, numbers-rise, numbers-member}
use Rattle.verify.specs.declared.Verdict.TheVariants.{Plan}
use Rattle.verify.specs.Verdict.{verdict, checking}
use Rattle.verify.proofs.Totals.{signed-price-same, file-costs}
use Rattle.verify.proofs.Meaning.{verdict-plan, plan-verdict}
use Rattle.verify.proofs.Verdicts.{checking-done}
use Rattle.desk.specs.Desk.{Desk, changes, replying}
use Rattle.desk.specs.Steps.{step_fault, stepped, moved_by, emptied}
use Rattle.desk.proofs.Ways.{passed, fault-none, step-refused, step_idle, step-done, empty_made}
use Rattle.running.specs.Running.{Step, run, puts, turned, in_after, columns_after, reply_of, Agrees, Running}
use Rattle.running.specs.Recount.{Bounded, Recount}
use Rattle.running.proofs.Recounted.{recount_same, moved_recount, idle_recount, empty_recount}

-- a column's number, and its place
number-eqb : (k number : ℕ) → 1 ≤ number → eqb k (number - 1) ≡ eqb (suc k) number
number-eqb k zero h = absurd (omega arith)
number-eqb k (suc j) h = let z : suc j - 1 ≡ j = omega arith in rw (z, eqb-suc-suc k j)

module _ (file : List ℕ) (ok : file_fault file ≡ fine) where
  accepts : Accepted file
  accepts = file-fine file ok

  abbrev p : Matrix
  p = (instance (parse file)).matrix

  abbrev costs : List ℤ
  costs = (parse file).costs

  bounded : Bounded p costs
  unfolding instance parse rows_fault
  bounded = record {
    wide = omega (arith, file-width file, accepts.walked.header.counts.columns.most);
    tall = accepts.walked.header.counts.rows.most;
    rises = λ j. bodies-rise (rows_in file) (bodies (parse file).lengths (parse file).numbers) j accepts.rising;
    cheap = file-costs file accepts;
  }

  -- one step
  module _ (v : Step) (X : ℕ → Bool) (d : Desk) (w : Recount p costs X d) where
    abbrev after : Desk
    after = stepped v.way file v.number d

    outside : (k : ℕ) → step_fault file v.number ≡ fault k → (j : ℕ) → j < width p → X j ≡ turned v X j
    outside k e j l = go (eqb (suc j) v.number) refl
      where
        go : (t : Bool) → eqb (suc j) v.number ≡ t → X j ≡ cond t (puts v.way) (X j)
        go false q = refl
        go true q =
            let n : suc j ≡ v.number = eqb-true (suc j) v.number q in
            let f = fault-none file v.number ok (omega (arith, n)) (omega (arith, n, l, file-width file)) in
            absurd (let z : ◌≡◌ {A = Fault} fine (fault k) = sym f ∙ e in let y : ◌≡◌ {A = ℕ} 0 1 = cc in omega arith)

    module _ (e : step_fault file v.number ≡ fine) where
      j : ℕ
      j = v.number - 1

      inside : j < width p
      unfolding j
      inside = let q = passed file v.number e in omega (arith, q.1, q.2, file-width file)

      named_so : (k : ℕ) → k < width p → cond (eqb k j) (puts v.way) (X k) ≡ turned v X k
      unfolding j
      named_so k l = rw (number-eqb k v.number (passed file v.number e).1)

      within : (t : Bool) → changes v.way (get_or d.marks j 0) ≡ t → Recount p costs (turned v X) after
      unfolding j moved_by
      within true c =
          rw (← (step-done v.way file v.number d e (moved_by v.way file v.number d) c refl).1)
          (recount_same p costs _ (turned v X) _ named_so (moved_recount p costs bounded X d w j inside v.way c))
      within false c =
          rw (← (step_idle v.way file v.number d e c).1) (recount_same p costs _ (turned v X) d named_so (idle_recount p costs bounded X d w j inside v.way c))

    step_recount : Recount p costs (turned v X) after
    step_recount = go (step_fault file v.number) refl
      where
        go : (f : Fault) → step_fault file v.number ≡ f → Recount p costs (turned v X) after
        go fine e = within e _ refl
        go (fault k) e = rw (← (step-refused v.way file v.number d k e).1) (recount_same p costs X (turned v X) d (outside k e) w)

  run_recount : (vs : List Step) (X : ℕ → Bool) (d : Desk) → Recount p costs X d → Recount p costs (in_after vs X) (run file vs d)
  unfolding run in_after
  run_recount [] X d w = w
  run_recount (v ∷ vs) X d w = run_recount vs (turned v X) (stepped v.way file v.number d) (step_recount v X d w)

  -- the desk's numbers are those of the recount, after any list of steps
  pub recounted : (d : Desk) (vs : List Step) → Recount p costs (in_after vs (λ j. false)) (run file vs (emptied file d))
  unfolding instance parse
  recounted d vs = run_recount vs (λ j. false) (emptied file d) (rw (← empty_made file d ok) (empty_recount p costs bounded))

  -- the columns that are in, as a list
  module _ (X : ℕ → Bool) where
    abbrev listed : List ℕ
    listed = map suc (keep X (upto (columns_in file)))

    listed-is : (j : ℕ) → j < width p → named listed j ≡ X j
    listed-is j l =
        numbers-member j (keep X (upto (columns_in file)))
        ∙ member-keep X j (upto (columns_in file))
        ∙ rw (member-upto (columns_in file) j (omega (arith, l, file-width file))) (and-true (X j))

    checked : checking file listed ≡ accepted (verdict p costs (named listed))
    checked = sym (checking-done file listed ok (rw zero-add at (numbers-rise X (columns_in file) 0 0 (omega arith))))

    -- what the desk's two numbers say of them
    module _ (d : Desk) (w : Recount p costs X d) where
      priced : signed_price p costs (named listed) ≡ signed_price p costs X
      priced = signed-price-same p costs (named listed) X listed-is

      covers : d.counts.off ≡ 0 → IsPlan p (named listed)
      covers z i l =
          count_same p i (named listed) X listed-is
          ∙ go (count p i X) (eqb (count p i X) 1) refl (omega (arith, z, w.off, total-one p.rows i (λ i. on (not (eqb (count p i X) 1)) 1) l))
        where
          go : (k : ℕ) (t : Bool) → eqb k 1 ≡ t → on (not t) 1 ≤ 0 → k ≡ 1
          go k true e h = eqb-true k 1 e
          go k false e h = absurd (omega arith)

      covered : IsPlan p (named listed) → d.counts.off ≡ 0
      covered h =
          w.off
          ∙ total-zero p.rows (λ i. on (not (eqb (count p i X) 1)) 1) (λ i l. rw (sym (count_same p i (named listed) X listed-is) ∙ h i l))

      gives : d.counts.off ≡ 0 → checking file listed ≡ accepted (Plan (signed_price p costs X))
      gives z = checked ∙ ap accepted (plan-verdict p costs (named listed) (covers z) ∙ ap Plan priced)

      replies : d.counts.off ≡ 0 → reply_of d ≡ Some (signed_price p costs X)
      unfolding replying
      replies z = rw (eq-eqb d.counts.off 0 z) (ap Some w.total)

      replies_none : (d.counts.off ≡ 0 → ⊥) → reply_of d ≡ None
      unfolding replying
      replies_none n = rw (ne_eqb d.counts.off 0 n)

      agrees : Agrees (reply_of d) (checking file listed)
      agrees = go (eqb d.counts.off 0) refl
        where
          tells : (c : ℤ) → checking file listed ≡ accepted (Plan c) → reply_of d ≡ Some c
          tells c e =
              let q : verdict p costs (named listed) ≡ Plan c = let z = sym checked ∙ e in cc in
              let v = verdict-plan p costs (named listed) c q in
              replies (covered v.covers) ∙ ap Some (sym priced ∙ v.priced)

          go : (t : Bool) → eqb d.counts.off 0 ≡ t → Agrees (reply_of d) (checking file listed)
          go true e =
              let z : d.counts.off ≡ 0 = eqb-true d.counts.off 0 e in
              record {
                told = λ y h. let q : y ≡ signed_price p costs X = let r = sym h ∙ replies z in cc in rw q (gives z);
                tells = tells;
                otherwise = λ h. absurd (h (signed_price p costs X) (gives z));
              }
          go false e =
              let n : reply_of d ≡ None = replies_none (eqb-false d.counts.off 0 e) in
              record {
                told = λ y h. absurd (let r = sym h ∙ n in let q : ◌≡◌ {A = ℕ} 0 1 = cc in omega arith);
                tells = tells;
                otherwise = λ h. n;
              }

  -- 02's claim
  pub running : (d : Desk) (vs : List Step) → Running file d vs
  unfolding columns_after
  running d vs = agrees (in_after vs (λ j. false)) (run file vs (emptied file d)) (recounted d vs)
