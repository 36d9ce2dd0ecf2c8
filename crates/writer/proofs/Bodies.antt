-- The walk over the bodies: each is the next part of the row numbers, and those that are left come to what all of them come to.
use mathlib.Core.Path.{◌≡◌, ap, sym, ◌∙◌}
use mathlib.Core.Bool.{Bool, true, false}
use mathlib.Core.List.{List, ◌∷◌}
use Prim.Native.Nat.{ℕ, ◌+◌, ◌-◌, ◌≤◌, ◌<◌}
use native.Mathlib.Omega.{arith}
use lib.ListN.{length, get_or, take, drop, drop_of_length-le}
use lib.Seq.{drop-drop}
use Rattle.node.proofs.Loops.{drop-step}
use Rattle.refusals.specs.Refusals.{fine, fault}
use Rattle.dutyfile.specs.File.{sum, bodies}
use Rattle.dutyfile.specs.Faults.{rising, bodies_fault}
use Rattle.dutyfile.proofs.Rising.{bodies-stop, bodies_next, bodies-none}

-- at body j, which starts at a place of the row numbers
pub record Testing (rows : ℕ) (lengths numbers : List ℕ) (start j : ℕ) : Type 0 where
  pub whole : start + sum (drop j lengths) ≡ length numbers
  pub left : bodies_fault rows (bodies (drop j lengths) (drop start numbers)) ≡ bodies_fault rows (bodies lengths numbers)

module _ (rows : ℕ) (lengths numbers : List ℕ) where
  module _ (start j : ℕ) (w : Testing rows lengths numbers start j) where
    module _ (inside : j < length lengths) where
      split : drop j lengths ≡ get_or lengths j 0 ∷ drop (j + 1) lengths
      split = drop-step lengths j inside

      pub testing_whole : start + get_or lengths j 0 + sum (drop (j + 1) lengths) ≡ length numbers
      unfolding sum
      testing_whole = omega (arith, rw split at w.whole)

      here : bodies (drop j lengths) (drop start numbers)
          ≡ take (start + get_or lengths j 0 - start) (drop start numbers) ∷ bodies (drop (j + 1) lengths) (drop (start + get_or lengths j 0) numbers)
      unfolding bodies
      here =
          let z : start + get_or lengths j 0 - start ≡ get_or lengths j 0 = omega arith in
          rw (split, z, ← drop-drop (get_or lengths j 0) start numbers)

      module _ (r : Bool) (told : r ≡ rising 0 rows (take (start + get_or lengths j 0 - start) (drop start numbers))) where
        pub testing_stop : r ≡ false → fault 9 ≡ bodies_fault rows (bodies lengths numbers)
        testing_stop h = sym (sym w.left ∙ ap (bodies_fault rows) here ∙ bodies-stop rows _ _ (sym told ∙ h))

        pub testing_next : r ≡ true → Testing rows lengths numbers (start + get_or lengths j 0) (j + 1)
        testing_next h = record {
          whole = testing_whole;
          left = sym (ap (bodies_fault rows) here ∙ bodies_next rows _ _ (sym told ∙ h)) ∙ w.left;
        }

    pub testing_end : length lengths ≤ j → fine ≡ bodies_fault rows (bodies lengths numbers)
    unfolding bodies
    testing_end h = sym (sym w.left ∙ rw (drop_of_length-le lengths h) (bodies-none rows))
