-- The answer of a table that passes its tests, and what it means.
use mathlib.Core.Path.{◌≡◌, refl, sym, ◌∙◌}
use mathlib.Core.Bool.{Bool, true, false}
use mathlib.Core.List.{List, map}
use Prim.Native.Nat.{ℕ, suc, ◌-◌, ◌≤◌, ◌<◌}
use native.Mathlib.Omega.{arith}
use lib.Dec.{ltb}
use lib.ListN.{length, drop, get_or}
use borrow.Author.Tests.{ltb-true, ltb-false}
use Rattle.refusals.specs.Refusals.{fine, fault, Outcome, accepted, refused, front, filled}
use Rattle.refusals.proofs.Laws.{unless-fine, unless-fault, fills}
use Rattle.assignments.specs.Cheapest.{nothing, found, best}
use Rattle.assignments.specs.Sets.{no_total, least_total, vessels, count, found_at}
use Rattle.assignments.proofs.Sets.{weight_one}
use Rattle.assignments.proofs.Best.{length-vessels, from_one, shown-best, none_valid}
use Rattle.assignments.proofs.Cheaper.{found-low, found_high}
use Rattle.assignments.proofs.Enumerated.{enumerated}
use Rattle.vessel_sets.specs.Table.{Sized, least_left, Filled}
use Rattle.assign.specs.Answer.{Values, told_best, told_none, values_of, vessel_numbers, table_fault, assigning, vessel_list}
use Rattle.assign.specs.Assigned.{Assigned}
use Rattle.assign.proofs.Tests.{sized}

-- the table's place for the empty set is the least total
pub total-at : (t : List (List ℕ)) (m n : ℕ) (d : List ℕ) → Filled t m n 0 d → get_or d 0 0 ≡ least_total t m n
unfolding least_left count
total-at t m n d f = let e : m - 0 ≡ m = omega arith in f.at 0 (omega arith) (weight_one n) ∙ rw e

-- answers that differ
best_or_none : (x : ℕ) → accepted (told_best x) ≡ accepted told_none → ⊥
best_or_none x e = let z : ◌≡◌ {A = ℕ} 0 1 = cc in omega arith

not-refused : (k : ℕ) (v : Values) → refused k ≡ accepted v → ⊥
not-refused k v e = let z : ◌≡◌ {A = ℕ} 0 1 = cc in omega arith

module _ (t : List (List ℕ)) (m n : ℕ) (z : Sized t m n) where
  best_is : best t m n ≡ found_at (least_total t m n) (vessels t m n)
  best_is = enumerated t m n (omega (arith, z.fits, z.few)) z.priced

  best_none : no_total ≤ least_total t m n → best t m n ≡ nothing
  best_none h = best_is ∙ found_high (least_total t m n) (vessels t m n) h

  best-some : least_total t m n < no_total → best t m n ≡ found (least_total t m n) (vessels t m n)
  best-some h = best_is ∙ found-low (least_total t m n) (vessels t m n) h

  -- what the code gives in either case
  pub given-none : (x : ℕ) → x ≡ least_total t m n → no_total ≤ x → accepted told_none ≡ accepted (values_of (best t m n))
  unfolding values_of
  given-none x e h = rw (best_none (omega (arith, e)))

  pub none-listed : (x : ℕ) → x ≡ least_total t m n → no_total ≤ x → (old : List ℕ) → old ≡ front (vessel_list t m n) old
  unfolding vessel_list vessel_numbers front
  none-listed x e h old = rw (best_none (omega (arith, e)))

  pub given-total : (x : ℕ) → x ≡ least_total t m n → x < no_total → accepted (told_best x) ≡ accepted (values_of (best t m n))
  unfolding values_of
  given-total x e h = rw (best-some (omega (arith, e)), e)

  pub total-listed : (x : ℕ) → x ≡ least_total t m n → x < no_total → (old new : List ℕ) → new ≡ front (map suc (vessels t m n)) old →
      new ≡ front (vessel_list t m n) old
  unfolding vessel_list vessel_numbers
  total-listed x e h old new is = rw (best-some (omega (arith, e))) is

  -- the answer means what P5 says
  meaning : (old : List ℕ) → Assigned t m n (accepted (values_of (best t m n))) (front (vessel_list t m n) old)
  unfolding values_of vessel_list vessel_numbers front
  meaning old = go (ltb (least_total t m n) no_total) refl
    where
      go : (q : Bool) → ltb (least_total t m n) no_total ≡ q → Assigned t m n (accepted (values_of (best t m n))) (front (vessel_list t m n) old)
      go true q =
          let h = ltb-true (least_total t m n) no_total q in
          let b = shown-best t n m (drop (length (map suc (vessels t m n))) old) h in
          rw (best-some h)
          (record {
            shows = λ x e. let k : least_total t m n ≡ x = cc in rw (← k) b;
            counted = λ x e i l. from_one (vessels t m n) _ i (omega (arith, length-vessels t n m 0 0));
            none_right = λ e. absurd (best_or_none (least_total t m n) e);
            none_whole = λ never v e. absurd (never _ b.assignment);
          })
      go false q =
          let h = ltb-false (least_total t m n) no_total q in
          rw (best_none h)
          (record {
            shows = λ x e. absurd (best_or_none x (sym e));
            counted = λ x e. absurd (best_or_none x (sym e));
            none_right = λ e. none_valid t m n (omega (arith, z.fits, z.few)) z.priced h;
            none_whole = λ never v e. cc;
          })

-- a refusal shows nothing
refused_meaning : (t : List (List ℕ)) (m n k : ℕ) (list : List ℕ) → Assigned t m n (refused k) list
refused_meaning t m n k list = record {
  shows = λ x e. absurd (not-refused k (told_best x) e);
  counted = λ x e. absurd (not-refused k (told_best x) e);
  none_right = λ e. absurd (not-refused k told_none e);
  none_whole = λ never v e. absurd (not-refused k v e);
}

-- what the call ensures, by its outcome and its list before and after
abbrev Called : List (List ℕ) → ℕ → ℕ → Outcome Values → List ℕ → List ℕ → Type 0
Called t m n o old new =
    (o ≡ assigning t m n (length old)) × ((new ≡ filled o (vessel_list t m n) old) × Assigned t m n o new)

module _ (t : List (List ℕ)) (m n : ℕ) (old : List ℕ) where
  pub call-refused : (k : ℕ) → table_fault t m n (length old) ≡ fault k → Called t m n (refused k) old old
  unfolding assigning filled
  call-refused k e = (unless-fault _ k e, (refl, refused_meaning t m n k old))

  pub call-accepted : table_fault t m n (length old) ≡ fine → (o : Outcome Values) (new : List ℕ) → o ≡ accepted (values_of (best t m n)) →
      new ≡ front (vessel_list t m n) old → Called t m n o old new
  unfolding assigning
  call-accepted e o new is list =
      (is ∙ unless-fine _ e, (list ∙ sym (fills _ _ old is), rw (is, list) (meaning t m n (sized t m n (length old) e).0 old)))
