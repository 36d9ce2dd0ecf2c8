-- The ways out of a file's tests, stage by stage.
use mathlib.Core.Path.{◌≡◌, ◌∙◌}
use mathlib.Core.List.{List}
use Prim.Native.Nat.{ℕ, ◌+◌}
use lib.ListN.{length}
use borrow.Author.Tests.{eq-eqb, ne_eqb}
use Rattle.refusals.specs.Refusals.{fine, fault, Outcome, accepted, refused, unless}
use Rattle.refusals.proofs.Laws.{stops_at, goes_on, passes, fails, unless-fine, unless-fault}
use Rattle.dutyfile.specs.declared.Shape.{Shape}
use Rattle.dutyfile.specs.File.{columns_in, bodies_at, parse, sum, shape}
use Rattle.dutyfile.specs.Faults.{header_fault, contents_fault, end_fault, rows_fault, file_fault}

-- what a file's tests come to
abbrev pub examined : List ℕ → Outcome Shape
examined s = unless (file_fault s) (shape s)

module _ (s : List ℕ) where
  pub header_fails : (k : ℕ) → header_fault s ≡ fault k → refused k ≡ examined s
  unfolding file_fault
  header_fails k e = unless-fault _ k (stops_at k _ e)

  module _ (header : header_fault s ≡ fine) where
    pub contents_fail : (k : ℕ) → contents_fault s ≡ fault k → refused k ≡ examined s
    unfolding file_fault
    contents_fail k e = unless-fault _ k (goes_on _ header ∙ stops_at k _ e)

    module _ (contents : contents_fault s ≡ fine) where
      pub end_fails : (length s ≡ bodies_at (columns_in s) + sum (parse s).lengths → ⊥) → refused 8 ≡ examined s
      unfolding file_fault end_fault
      end_fails h = unless-fault _ 8 (goes_on _ header ∙ goes_on _ contents ∙ stops_at 8 _ (fails 8 (ne_eqb _ _ h)))

      pub end-passes : length s ≡ bodies_at (columns_in s) + sum (parse s).lengths → end_fault s ≡ fine
      unfolding end_fault
      end-passes h = passes 8 (eq-eqb _ _ h)

      module _ (end : end_fault s ≡ fine) where
        pub rows_fail : (k : ℕ) → rows_fault s ≡ fault k → refused k ≡ examined s
        unfolding file_fault
        rows_fail k e = unless-fault _ k (goes_on _ header ∙ goes_on _ contents ∙ goes_on _ end ∙ e)

        pub all_passes : rows_fault s ≡ fine → accepted (shape s) ≡ examined s
        unfolding file_fault
        all_passes e = unless-fine _ (goes_on _ header ∙ goes_on _ contents ∙ goes_on _ end ∙ e)
