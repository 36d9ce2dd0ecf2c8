-- A row's statistics: with one more free column they are those of the columns so far with that column joined.
use mathlib.Core.Path.{◌≡◌, refl, ap, sym, ◌∙◌}
use mathlib.Core.Bool.{Bool, true, false}
use mathlib.Core.List.{List, [], ◌∷◌, ◌++◌}
use Prim.Native.Nat.{ℕ, ◌+◌, ◌≤◌, ◌<◌}
use native.Mathlib.Omega.{arith}
use lib.ListN.{length, get_or, take, drop, length-append, take-append-drop}
use lib.Dec.{eqb, ltb}
use borrow.Author.Tests.{eq-eqb, ne_eqb, lt-ltb, le-ltb, ltb-true, eqb-true, eqb-false}
use Rattle.node.specs.Lists.{keep, member, least, least_from}
use Rattle.node.proofs.Members.{kept, least_at, keep-short}
use Rattle.node.proofs.Loops.{keep_append, keep-more, keep_same}
use Rattle.node.proofs.Passes.{Telling, telling_start, telling_few, telling_in, telling_out}
use Rattle.candidates.proofs.Keep.{least_more}
use Rattle.choice.specs.declared.BranchRow.{BranchRow}
use Rattle.choice.specs.Row.{tally, lower_penalty, joined, tally_in}

-- the least cost above 0 is above 0, if there is one
pub least_above : (f : ℕ → ℕ) (js : List ℕ) → 0 < length (keep (λ j. ltb 0 (f j)) js) → 0 < least f (keep (λ j. ltb 0 (f j)) js)
least_above f js = go (keep (λ j. ltb 0 (f j)) js) refl
  where
    go : (ks : List ℕ) → keep (λ j. ltb 0 (f j)) js ≡ ks → 0 < length ks → 0 < least f ks
    go [] e h = absurd (omega arith)
    go (k ∷ ks) e h =
        let r = least_at f k ks in
        let m : member r.0 (keep (λ j. ltb 0 (f j)) js) ≡ true = rw e r.1 in
        omega (arith, r.2, ltb-true 0 (f r.0) (kept (λ j. ltb 0 (f j)) r.0 js m).0)

module _ (f : ℕ → ℕ) (x i : ℕ) (js : List ℕ) where
  above : List ℕ
  above = keep (λ j. ltb 0 (f j)) js

  at_zero : f x ≡ 0 → joined (tally f js i) (f x) ≡ tally f (js ++ (x ∷ [])) i
  unfolding joined tally
  at_zero h =
      rw (eq-eqb (f x) 0 h)
      (sym (rw (
        keep-more (λ j. eqb (f j) 0) js x (eq-eqb (f x) 0 h),
        keep_same (λ j. ltb 0 (f j)) js x (le-ltb 0 (f x) (omega arith)),
        length-append js (x ∷ []),
        length-append (keep (λ j. eqb (f j) 0) js) (x ∷ []),
      )))

  module _ (h : 0 < f x) where
    first_above : above ≡ [] → joined (tally f js i) (f x) ≡ tally f (js ++ (x ∷ [])) i
    unfolding joined lower_penalty tally least least_from above
    first_above e =
        rw (ne_eqb (f x) 0 (λ q. omega arith), e)
        (sym (rw (
          keep_same (λ j. eqb (f j) 0) js x (ne_eqb (f x) 0 (λ q. omega arith)),
          keep-more (λ j. ltb 0 (f j)) js x (lt-ltb 0 (f x) h),
          e,
          length-append js (x ∷ []),
        )))

    further_above : 0 < length above → joined (tally f js i) (f x) ≡ tally f (js ++ (x ∷ [])) i
    unfolding joined lower_penalty tally above
    further_above l =
        rw (ne_eqb (f x) 0 (λ q. omega arith), ne_eqb (least f (keep (λ j. ltb 0 (f j)) js)) 0 (λ q. omega (arith, least_above f js l)))
        (sym (rw (
          keep_same (λ j. eqb (f j) 0) js x (ne_eqb (f x) 0 (λ q. omega arith)),
          keep-more (λ j. ltb 0 (f j)) js x (lt-ltb 0 (f x) h),
          least_more f (keep (λ j. ltb 0 (f j)) js) x l,
          length-append js (x ∷ []),
        )))

    joins_above : (ks : List ℕ) → above ≡ ks → joined (tally f js i) (f x) ≡ tally f (js ++ (x ∷ [])) i
    joins_above [] e = first_above e
    joins_above (k ∷ ks) e = further_above (rw e (omega arith))

  tally-more : joined (tally f js i) (f x) ≡ tally f (js ++ (x ∷ [])) i
  tally-more = go (eqb (f x) 0) refl
    where
      go : (b : Bool) → eqb (f x) 0 ≡ b → joined (tally f js i) (f x) ≡ tally f (js ++ (x ∷ [])) i
      go true e = at_zero (eqb-true (f x) 0 e)
      go false e = let n : f x ≡ 0 → ⊥ = eqb-false (f x) 0 e in joins_above (omega arith) above refl

-- at column k of a row
pub record Tallying (cost column row : List ℕ) (i : ℕ) (found : BranchRow) (k : ℕ) : Type 0 where
  pub so_far : Telling (λ js. tally (λ j. get_or cost j 0) js i) (λ j. eqb (get_or column j 0) 1) row found k

pub tallying_start : (cost column row : List ℕ) (i : ℕ) → Tallying cost column row i (record { zeros = 0; penalty = 0; free = 0; row = i }) 0
unfolding tally keep least
tallying_start cost column row i = record { so_far = telling_start _ _ row }

module _ (cost column row : List ℕ) (i : ℕ) (found : BranchRow) (k : ℕ) (w : Tallying cost column row i found k) where
  module _ (inside : k < length row) where
    pub tallying_few : length row ≤ 4096 → (found.free < 4096) × (found.zeros ≤ found.free)
    unfolding tally
    tallying_few h =
        let js : List ℕ = keep (λ j. eqb (get_or column j 0) 1) (take k row) in
        let e = w.so_far.is in
        (rw e (omega (arith, telling_few _ _ row found k w.so_far inside)), rw e (keep-short (λ j. eqb (get_or cost j 0) 0) js))

    pub tallying_free : get_or column (get_or row k 0) 0 ≡ 1 → (next : BranchRow) → next ≡ joined found (get_or cost (get_or row k 0) 0) →
        Tallying cost column row i next (k + 1)
    tallying_free h next e = record {
      so_far =
          telling_in _ _ row found k w.so_far inside (λ a x. joined a (get_or cost x 0))
          (λ js x. tally-more (λ j. get_or cost j 0) x i js) (eq-eqb _ 1 h) next e;
    }

    pub tallying_other : (get_or column (get_or row k 0) 0 ≡ 1 → ⊥) → Tallying cost column row i found (k + 1)
    tallying_other h = record { so_far = telling_out _ _ row found k w.so_far inside (ne_eqb _ 1 h) }

  -- no column takes a column at cost 0 away
  pub tallying_zeros : found.zeros ≤ (tally_in cost column row i).zeros
  unfolding tally
  tallying_zeros =
      let z : ℕ → Bool = λ j. eqb (get_or cost j 0) 0 in
      let t : ℕ → Bool = λ j. eqb (get_or column j 0) 1 in
      let e : keep t row ≡ keep t (take k row) ++ keep t (drop k row) =
      ap (keep t) (sym (take-append-drop k row)) ∙ keep_append t (take k row) (drop k row) in
      let n : length (keep z (keep t row)) ≡ length (keep z (keep t (take k row))) + length (keep z (keep t (drop k row))) =
      rw (e, keep_append z (keep t (take k row)) (keep t (drop k row)), length-append (keep z (keep t (take k row))) (keep z (keep t (drop k row)))) in
      rw w.so_far.is (omega arith)
