-- Appending to the lists of a file: a part that is filled, and the rows one by one, where those that are left to append give what all of them
-- give.
use mathlib.Core.Path.{◌≡◌, sym, ◌∙◌}
use mathlib.Core.List.{List, ◌++◌, append_assoc}
use Prim.Native.Nat.{ℕ, zero, suc, ◌+◌, ◌-◌, ◌≤◌, ◌<◌}
use native.Mathlib.Nat.{add-zero}
use native.Mathlib.Omega.{arith}
use lib.ListN.{length, get_or, set, take, drop, replicate, length-take, length-drop, length-replicate}
use lib.Seq.{sets, sets-eq, drop-drop}
use Rattle.node.specs.Lists.{from}
use Rattle.node.proofs.Members.{length_from}
use Rattle.matrix.proofs.Putting.{Copying, copying_next, copying_end}

-- a part of a list that holds one number throughout
pub part_filled : {A : Type 0} (x : A) (l ys : List A) (at end n : ℕ) → at + n ≡ end → end ≤ length l →
    ys ≡ replicate (length (take (end - at) (drop at l))) x → take at l ++ (ys ++ drop (end - at) (drop at l)) ≡ sets l at (replicate n x)
part_filled x l ys at end n e h is =
    let m : end - at ≡ n = omega arith in
    let long : length (take n (drop at l)) ≡ n = simp (length-take, length-drop) (omega arith) in
    let all : length (replicate n x) ≡ n = length-replicate n x in
    rw (is, m, long, drop-drop) (sym (rw (all, append_assoc) at (sets-eq (replicate n x) l at (omega (arith, all)))))

from_at : (e r i : ℕ) → i < e → get_or (from e r) i 0 ≡ r + i
unfolding from
from_at zero r i l = absurd (omega (arith, l))
from_at (suc e) r zero l = sym (add-zero r)
from_at (suc e) r (suc i) l = from_at e (suc r) i (omega (arith, l)) ∙ omega arith

-- the rows above k, of which i are appended
module _ (k extra entries : ℕ) (numbers₀ numbers : List ℕ) (i : ℕ) (w : Copying (from extra (suc k)) numbers₀ entries numbers i) where
  pub appending_next : i < extra → Copying (from extra (suc k)) numbers₀ entries (set numbers (entries + i) (k + 1 + i)) (i + 1)
  appending_next l =
      let row : get_or (from extra (suc k)) i 0 ≡ k + 1 + i = from_at extra (suc k) i l ∙ omega arith in
      rw row at (copying_next _ _ _ _ _ w (omega (arith, l, length_from extra (suc k))))

  pub appending_end : extra ≤ i → numbers ≡ sets numbers₀ entries (from extra (suc k))
  appending_end l = copying_end _ _ _ _ _ w (omega (arith, l, length_from extra (suc k)))
