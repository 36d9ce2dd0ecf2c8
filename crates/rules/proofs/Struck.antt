-- An agreed list without what is absent (02, P9): with nothing in both lists it is the agreed list, and what is asked of the agreed columns
-- holds of those that are left.
use mathlib.Core.Path.{◌≡◌, sym, ◌∙◌, subst}
use mathlib.Core.Bool.{Bool, true, false, not, cond, false≢true}
use mathlib.Core.List.{List, [], ◌∷◌}
use mathlib.Core.Logic.{⊎_elim}
use Prim.Native.Nat.{ℕ, ◌-◌}
use Rattle.node.specs.Lists.{keep, member}
use Rattle.node.specs.Matrix.{Matrix}
use Rattle.rules.specs.Agreed.{struck}
use Rattle.rules.specs.Requests.{columns_of}
use Rattle.node.proofs.Members.{not_so, here, there, member-cases, keep_cong, keep_all}
use Rattle.rules.proofs.Agreed.{Inside, Distinct}

pub struck-same : (agreed absent : List ℕ) → ((j : ℕ) → member j agreed ≡ true → member j absent ≡ false) → struck agreed absent ≡ agreed
unfolding struck
struck-same agreed absent h = keep_cong (λ j. not (member j absent)) (λ j. true) agreed (λ j m. rw (h j m)) ∙ keep_all agreed

-- the column of a number of a list
pub member-columns : (j : ℕ) (js : List ℕ) → member j js ≡ true → member (j - 1) (columns_of js) ≡ true
unfolding member
member-columns j [] m = absurd (false≢true m)
member-columns j (x ∷ xs) m =
    ⊎_elim (λ e. subst (λ y. member (y - 1) (columns_of (x ∷ xs)) ≡ true) (sym e) (here (x - 1) (columns_of xs))) (λ h. there (j - 1) (x - 1) (columns_of xs) (member-columns j xs h)) (member-cases j x xs m)

-- the columns of the numbers that pass a test
kept-column : (t : ℕ → Bool) (j : ℕ) (js : List ℕ) → member j (columns_of (keep t js)) ≡ true → member j (columns_of js) ≡ true
unfolding keep
kept-column t j [] m = m
kept-column t j (x ∷ xs) m = go (t x) (kept-column t j xs) m
  where
    go : (b : Bool) → (member j (columns_of (keep t xs)) ≡ true → member j (columns_of xs) ≡ true)
        → member j (columns_of (cond b (x ∷ keep t xs) (keep t xs))) ≡ true → member j (columns_of (x ∷ xs)) ≡ true
    go true w m = ⊎_elim (λ e. rw e (here (x - 1) (columns_of xs))) (λ h. there j (x - 1) (columns_of xs) (w h)) (member-cases j (x - 1) _ m)
    go false w m = there j (x - 1) (columns_of xs) (w m)

kept_distinct : (t : ℕ → Bool) (js : List ℕ) → Distinct (columns_of js) → Distinct (columns_of (keep t js))
unfolding keep
kept_distinct t [] d = tt
kept_distinct t (x ∷ xs) d = go (t x) (kept_distinct t xs d.1)
  where
    go : (b : Bool) → Distinct (columns_of (keep t xs)) → Distinct (columns_of (cond b (x ∷ keep t xs) (keep t xs)))
    go true h = (not_so (λ m. false≢true (sym d.0 ∙ kept-column t (x - 1) xs m)), h)
    go false h = h

module _ (agreed absent : List ℕ) where
  pub struck-inside : (p : Matrix) → Inside p (columns_of agreed) → Inside p (columns_of (struck agreed absent))
  unfolding struck
  struck-inside p h j m = h j (kept-column _ j agreed m)

  pub struck_distinct : Distinct (columns_of agreed) → Distinct (columns_of (struck agreed absent))
  unfolding struck
  struck_distinct = kept_distinct _ agreed
