-- The call for either edition: a file is refused by its own tests, then by those of the trials, the list's room and the node limit; and
-- otherwise what is found is the finding of the trials, of which what a desk reads is proved.
use mathlib.Core.Path.{◌≡◌, refl, ap, sym, ◌∙◌}
use mathlib.Core.List.{List}
use Prim.Native.Nat.{ℕ, ◌+◌, ◌-◌, ◌≤◌}
use native.Mathlib.Omega.{arith}
use lib.IntN.{ℤ}
use lib.ListN.{length}
use borrow.Author.Tests.{leb-true}
use Rattle.refusals.specs.Refusals.{fine, fault, Outcome, accepted, refused, unless, front, filled}
use Rattle.refusals.proofs.Laws.{both, asked, stops_at, goes_on, unless-fine, unless-fault, fills, front-take}
use Rattle.dutyfile.specs.declared.Shape.{Shape}
use Rattle.dutyfile.specs.File.{parse, shape}
use Rattle.dutyfile.specs.Faults.{contents_fault, file_fault}
use Rattle.dutyfile.proofs.Entries.{length-costs}
use Rattle.dutyfile.proofs.Facts.{Accepted, file-fine, ask-within, contents-small}
use Rattle.dutyfile.proofs.Round.{lists-fine, lists-pass}
use Rattle.lists.proofs.Read.{Fronts}
use Rattle.search.specs.Searching.{call_fault}
use Rattle.trials.specs.Trials.{Finding, no_crew, plan_exists, stopped_at, finding}
use Rattle.trials.specs.Told.{Told}
use Rattle.trials.proofs.Extended.{Extendable}
use Rattle.trials.proofs.Told.{finding-told}
use Rattle.trial.specs.Ready.{held, Ready}
use Rattle.refusals.specs.declared.Refusal.{Refusal}
use Rattle.uncrewed.specs.declared.UncrewedAnswer.{UncrewedAnswer}
use Rattle.std.specs.Prelude.{Result}
use Rattle.uncrewed.specs.Answer.{Values, uncrewed_outcome, values_of, shown_of, seen, trials_fault, uncrewed_fault, file_uncrewed_fault, uncrewed_list, Sized}

-- what a desk reads of the answer that is seen
abbrev Tells : List ℕ → ℕ → Outcome Values → List ℕ → Type 0
Tells file limit o list = (x : Finding) → seen o list ≡ accepted x → Told (parse file) limit x

-- of a refusal no finding is seen
pub refused-tells : (file : List ℕ) (limit k : ℕ) (list : List ℕ) → Tells file limit (refused k) list
unfolding seen
refused-tells file limit k list = λ x e. absurd (let z : ◌≡◌ {A = ℕ} 0 1 = cc in omega arith)

-- a finding that is answered and whose columns are listed is seen
seen-is : (x : Finding) (old list : List ℕ) → list ≡ front (shown_of x) old → seen (accepted (values_of x)) list ≡ accepted x
unfolding seen values_of shown_of
seen-is (no_crew k js) old list e = rw (e, front-take js old (length js) refl)
seen-is plan_exists old list e = refl
seen-is (stopped_at k) old list e = refl

-- the numbers of a file that is read
pub sized : (s : List ℕ) (found : Shape) (costs : List ℤ) (lengths numbers : List ℕ) → Fronts s found costs lengths numbers → Sized found
unfolding shape contents_fault
sized s found costs lengths numbers f =
    let a : Accepted s = file-fine s f.passes in
    rw (sym f.shape_is) (record {
      one = a.walked.header.counts.rows.least;
      tall = a.walked.header.counts.rows.most;
      full = contents-small s a.walked.contents;
    })

module _ (s : List ℕ) (limit places : ℕ) where
  abbrev answered : Outcome Values
  answered = unless (file_uncrewed_fault s limit places) (values_of (finding (parse s) limit))

  pub refused-file : (k : ℕ) → file_fault s ≡ fault k → refused k ≡ answered
  unfolding file_uncrewed_fault
  refused-file k h = unless-fault _ k (stops_at k _ h)

  -- a file that is read
  module _ (found : Shape) (costs : List ℤ) (lengths numbers : List ℕ) (f : Fronts s found costs lengths numbers) where
    pub refused-call : (n : ℕ) → uncrewed_fault found places limit ≡ fault n → refused n ≡ answered
    unfolding file_uncrewed_fault
    refused-call n h = unless-fault _ n (goes_on _ f.passes ∙ rw (sym f.shape_is) at h)

    held-is : held found costs lengths numbers ≡ parse s
    unfolding shape parse
    held-is = rw (f.costs_front, f.lengths_front, f.numbers_front, sym f.shape_is)

    -- for a call that passes its tests
    module _ (fits : uncrewed_fault found places limit ≡ fine) where
      trials_fit : trials_fault found ≡ fine
      unfolding uncrewed_fault
      trials_fit = (both _ _ fits).0

      call_fits : call_fault found places limit ≡ fine
      unfolding uncrewed_fault
      call_fits = (both _ _ fits).1

      columns_are : length (parse s).costs ≡ found.columns
      unfolding shape
      columns_are = length-costs s ∙ ap (λ (x : Shape). x.columns) f.shape_is

      extendable : Extendable (parse s)
      unfolding trials_fault shape parse
      extendable =
          let b = both _ _ trials_fit in
          record {
            passes = lists-fine (parse s) (lists-pass s (file-fine s f.passes));
            few = omega (arith, columns_are, leb-true found.columns 192 (asked _ 18 b.0));
            full = rw (sym f.shape_is) at (leb-true (found.entries + (found.rows - 1)) 4096 (asked _ 6 b.1));
          }

      pub ready : Ready found costs lengths numbers limit
      unfolding call_fault shape
      ready =
          let l = ask-within 1 1000000 limit 11 (both _ _ call_fits).1 in
          record {
            lists = rw held-is extendable;
            columns_is = rw f.costs_front columns_are;
            entries_is = rw f.lengths_front (ap (λ (x : Shape). x.entries) f.shape_is);
            one = l.least;
            limited = l.most;
          }

      pub has_room : found.rows ≤ places
      unfolding call_fault
      has_room = leb-true _ _ (asked _ 10 (both _ _ call_fits).0)

      module _ (r : Result UncrewedAnswer Refusal) (told : uncrewed_outcome r ≡ accepted (values_of (finding (held found costs lengths numbers) limit))) where
        pub given-answer : uncrewed_outcome r ≡ answered
        unfolding file_uncrewed_fault
        given-answer =
            rw held-is at told
            ∙ unless-fine (values_of (finding (parse s) limit)) (goes_on _ f.passes ∙ rw (sym f.shape_is) at fits)

        module _ (new old : List ℕ) (lists : new ≡ front (shown_of (finding (held found costs lengths numbers) limit)) old) where
          pub given_list : new ≡ filled (uncrewed_outcome r) (uncrewed_list s limit) old
          unfolding uncrewed_list
          given_list = rw held-is at lists ∙ sym (fills _ (uncrewed_list s limit) old told)

          pub given-tells : Tells s limit (uncrewed_outcome r) new
          given-tells x e =
              let z : seen (uncrewed_outcome r) new ≡ accepted (finding (parse s) limit) =
              rw (rw held-is at told) (seen-is (finding (parse s) limit) old new (rw held-is at lists)) in
              let y : accepted x ≡ accepted (finding (parse s) limit) = sym e ∙ z in
              let w : finding (parse s) limit ≡ x = cc in
              rw w at (finding-told (parse s) extendable limit)
