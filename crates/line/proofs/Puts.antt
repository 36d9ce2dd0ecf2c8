-- Texts that are written one after the other.
use mathlib.Core.Path.{◌≡◌, refl, ap, sym, ◌∙◌}
use mathlib.Core.List.{List, [], ◌∷◌, ◌++◌, append-nil}
use Prim.Native.Nat.{ℕ, suc, ◌+◌, ◌≤◌}
use native.Mathlib.Omega.{arith}
use native.Mathlib.Nat.{add_assoc}
use lib.IntN.{ℤ, pos, nat_abs}
use lib.ListN.{length, take, drop, length-append}
use lib.Seq.{sets, sets-eq}
use mir.Syntax.{w64}
use mir.Val.{SFits, to_z, of_z}
use mir.Facts.{to_z-of_z}
use Rattle.refusals.specs.Refusals.{front}
use Rattle.line.specs.Put.{Put}
use Rattle.endian.proofs.Parts.{sets_append}
use Rattle.signed.proofs.Signs.{Under, Over}
use Rattle.io.specs.Digits.{last_digits, IsDigitCount}
use Rattle.line.specs.Line.{decimal, decimal_z, field}
use Rattle.line.proofs.Numerals.{length_digits, spelled}

pub put_then : (old mid new : List ℕ) (at on end : ℕ) (a b : List ℕ) → Put old mid at on a → Put mid new on end b → Put old new at end (a ++ b)
put_then old mid new at on end a b x y = record {
  ends = rw (length-append a b, y.ends, x.ends) (add_assoc at (length a) (length b));
  written = rw (y.written, x.written, x.ends) (sym (sets_append old at a b));
}

-- a run of bytes
pub put-run : (old new : List ℕ) (at : ℕ) (a : List ℕ) → new ≡ sets old at a → Put old new at (at + length a) a
put-run old new at a e = record { ends = refl; written = e }

-- the digits that the library gives for a number
pub put_digits : (old new text : List ℕ) (at n k : ℕ) → k ≤ 20 → IsDigitCount 10 1 n k → take k text ≡ last_digits 10 k n → new ≡ sets old at (take k text) →
    Put old new at (at + k) (decimal 20 n)
put_digits old new text at n k h w t b =
    let e : take k text ≡ decimal 20 n = t ∙ spelled k 20 n w h in
    let l : length (decimal 20 n) ≡ k = rw (sym (spelled k 20 n w h)) (length_digits k n) in
    record { ends = rw l; written = rw (b, e) }

-- a space, and digits
pub put-field : (old mid new : List ℕ) (at n r : ℕ) → mid ≡ sets old at (32 ∷ []) → Put mid new (at + 1) r (decimal 20 n) →
    Put old new at r (field (pos n))
unfolding field decimal_z
put-field old mid new at n r a w = put_then _ _ _ _ _ _ _ _ (put-run old mid at (32 ∷ []) a) w

-- a space, a minus sign, and the digits of a number below 0; or a number that is not
module _ (z : ℤ) (f : SFits w64 z) (old new : List ℕ) (at n r : ℕ) (e : n ≡ nat_abs (to_z w64 (of_z w64 z))) where
  pub put_under : Under w64 z → (mid : List ℕ) → mid ≡ sets old at (32 ∷ 45 ∷ []) → Put mid new (at + 2) r (decimal 20 n) → Put old new at r (field z)
  unfolding field decimal_z
  put_under u mid a w =
      let d : n ≡ suc u.n = rw (to_z-of_z f, u.is) at e in
      rw (u.is, sym d) (put_then _ _ _ _ _ _ _ _ (put-run old mid at (32 ∷ 45 ∷ []) a) w)

  pub put_over : Over w64 z → Put old new at r (field (pos n)) → Put old new at r (field z)
  put_over u w =
      let d : n ≡ u.n = rw (to_z-of_z f, u.is) at e in
      rw (u.is, sym d) w

-- a number as a call takes it, read back from its bits
pub put_same : (z : ℤ) (f : SFits w64 z) (old new : List ℕ) (at r : ℕ) → Put old new at r (field (to_z w64 (of_z w64 z))) → Put old new at r (field z)
put_same z f old new at r w = rw (to_z-of_z f) at w

pub put_last : (old new : List ℕ) (at end : ℕ) (a : List ℕ) → Put old new at end a → Put old new at end (a ++ [])
put_last old new at end a x = rw (append-nil a) x

-- written from the first place on, a text is the front
pub put_front : (old new : List ℕ) (end : ℕ) (a : List ℕ) → Put old new 0 end a → end ≤ length old → new ≡ front a old
unfolding front
put_front old new end a x h =
    let e : 0 + length a ≡ length a = omega arith in
    x.written ∙ sets-eq a old 0 (omega (arith, x.ends, h)) ∙ ap (λ k. a ++ drop k old) e
