-- At most one column so far, before those at cost 0 that are left: together they are all of them.
use mathlib.Core.Path.{◌≡◌, refl, ap, sym, ◌∙◌}
use mathlib.Core.Bool.{Bool, true, false, false≢true}
use mathlib.Core.List.{List, [], ◌∷◌, ◌++◌}
use Prim.Native.Nat.{ℕ, ◌+◌, ◌≤◌, ◌<◌}
use lib.ListN.{length, get_or, drop}
use Rattle.std.proofs.Common.{Option, Some, None, is_some}
use Rattle.node.specs.Lists.{keep}
use Rattle.node.proofs.Loops.{drop_in, drop_out, drop-end}
use Rattle.columns.specs.Column.{only}

-- the column found so far, where there is one
unfoldable pub lead : Option ℕ → List ℕ
lead None = []
lead (Some j) = j ∷ []

-- at place k of some columns
pub record Lone (z : ℕ → Bool) (js : List ℕ) (found : Option ℕ) (k : ℕ) : Type 0 where
  pub left : lead found ++ keep z (drop k js) ≡ keep z js

pub lone_start : (z : ℕ → Bool) (js : List ℕ) → Lone z js None 0
unfolding lead
lone_start z js = record { left = refl }

module _ (z : ℕ → Bool) (js : List ℕ) (k : ℕ) where
  pub lone_two : (found : Option ℕ) → Lone z js found k → k < length js → z (get_or js k 0) ≡ true → is_some found ≡ true → None ≡ only (keep z js)
  unfolding lead only
  lone_two None w inside h s = absurd (false≢true s)
  lone_two (Some j) w inside h s =
      let e : j ∷ (get_or js k 0 ∷ keep z (drop (k + 1) js)) ≡ keep z js = rw (drop_in z js k inside h) at w.left in
      ap only e

  pub lone_found : (found : Option ℕ) → Lone z js found k → k < length js → z (get_or js k 0) ≡ true → is_some found ≡ false →
      Lone z js (Some (get_or js k 0)) (k + 1)
  unfolding lead
  lone_found None w inside h s = record { left = rw (drop_in z js k inside h) at w.left }
  lone_found (Some j) w inside h s = absurd (false≢true (sym s))

  pub lone_other : (found : Option ℕ) → Lone z js found k → k < length js → z (get_or js k 0) ≡ false → Lone z js found (k + 1)
  lone_other found w inside h = record { left = ap (λ (ks : List ℕ). lead found ++ ks) (sym (drop_out z js k inside h)) ∙ w.left }

  pub lone_end : (found : Option ℕ) → Lone z js found k → length js ≤ k → found ≡ only (keep z js)
  unfolding lead only
  lone_end None w h = ap only (rw (drop-end z js k h) at w.left)
  lone_end (Some j) w h = ap only (rw (drop-end z js k h) at w.left)
