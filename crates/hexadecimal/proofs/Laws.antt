-- One turn of each loop, and its end: what is left from here gives the whole.
use mathlib.Core.Path.{◌≡◌, refl, ap}
use mathlib.Core.List.{List, [], ◌∷◌}
use Prim.Native.Nat.{ℕ, suc, ◌+◌, ◌-◌, ◌*◌, ◌/◌, ◌≤◌, ◌<◌, min}
use native.Mathlib.Nat.{zero-add, sub-zero}
use native.Mathlib.Numerals.{add-one}
use native.Mathlib.Omega.{arith}
use borrow.Author.Tests.{leb-true, leb-false, eq-eqb, ne_eqb}
use lib.Dec.{leb}
use mathlib.Core.Bool.{Bool, true, false}
use lib.ListN.{length, get_or, take, drop, set, length-set, length-drop, drop_of_length-le}
use lib.Seq.{sets, drop-cons, take_all}
use Rattle.hexadecimal.specs.Text.{byte_of, bytes_of, decoded, before, place_of}

-- Decoding.

two-on : (text : List ℕ) (j : ℕ) → suc j < length text →
    bytes_of (drop j text) ≡ byte_of (get_or text j 0) (get_or text (suc j) 0) ∷ bytes_of (drop (suc (suc j)) text)
unfolding bytes_of
two-on text j h = rw (drop-cons text j 0 (omega arith), drop-cons text (suc j) 0 h)

too_few : (cs : List ℕ) → length cs ≤ 1 → bytes_of cs ≡ []
unfolding bytes_of
too_few [] h = refl
too_few (a ∷ []) h = refl
too_few (a ∷ b ∷ cs) h = absurd (omega arith)

-- the bytes that are left at place i of the text, with n of the places filled
abbrev pub left : List ℕ → ℕ → ℕ → ℕ → List ℕ
left text places n i = take (places - n) (bytes_of (drop (i - 1) text))

module _ (text : List ℕ) (places n i : ℕ) where
  left_next : 1 ≤ i → i < length text → n < places →
      left text places n i ≡ byte_of (get_or text (i - 1) 0) (get_or text i 0) ∷ left text places (n + 1) (i + 2)
  left_next one h r =
      let here : suc (i - 1) ≡ i = omega arith in
      let there : i + 2 - 1 ≡ suc (suc (i - 1)) = omega arith in
      let more : places - n ≡ suc (places - (n + 1)) = omega arith in
      rw (there, more, two-on text (i - 1) (omega arith), here)

  pub left-none : length text ≤ i → left text places n i ≡ []
  left-none h = rw (too_few (drop (i - 1) text) (simp length-drop (omega arith))) (take_all (places - n) [] (omega arith))

  pub left-full : places ≤ n → left text places n i ≡ []
  left-full h = let none : places - n ≡ 0 = omega arith in rw none

-- nothing is left where the places or the text end
pub left_end : (text : List ℕ) (places k : ℕ) → min places ((length text - 1) / 2) ≤ k → left text places k (2 * k + 2) ≡ []
left_end text places k h = go (leb places k) refl
  where
    go : (full : Bool) → leb places k ≡ full → left text places k (2 * k + 2) ≡ []
    go true e = left-full text places k (2 * k + 2) (leb-true places k e)
    go false e = left-none text places k (2 * k + 2) (let n = leb-false places k e in omega arith)

pub record Decoding (text old file : List ℕ) (n i : ℕ) : Type 0 where
  pub place : 2 ≤ i
  pub within : n ≤ length file
  pub same_length : length file ≡ length old
  pub bytes : sets file n (left text (length old) n i) ≡ sets old 0 (decoded text (length old))
  pub number : n + length (left text (length old) n i) ≡ length (decoded text (length old))

pub decoding_start : (text old : List ℕ) → Decoding text old old 0 2
unfolding decoded
decoding_start text old = record { place = omega arith; within = omega arith; same_length = refl; bytes = rw sub-zero; number = rw (sub-zero, zero-add) }

module _ (text old file : List ℕ) (n i : ℕ) (d : Decoding text old file n i) where
  pub decoding_next : i < length text → n < length file → (b : ℕ) → b ≡ byte_of (get_or text (i - 1) 0) (get_or text i 0) →
      Decoding text old (set file n b) (n + 1) (i + 2)
  decoding_next h r b is =
      let next = left_next text (length old) n i (omega (arith, d.place)) h (omega (arith, d.same_length)) in
      record {
        place = omega (arith, d.place);
        within = simp length-set (omega arith);
        same_length = simp length-set d.same_length;
        bytes = rw (is, ← d.bytes, next, add-one n);
        number = omega (arith, d.number, ap length next);
      }

  -- what is put, and how much, where nothing is left
  pub decoded_all : left text (length old) n i ≡ [] → (file ≡ sets old 0 (decoded text (length old))) × (n ≡ length (decoded text (length old)))
  decoded_all e = (rw e at d.bytes, omega (arith, d.number, ap length e))

-- Finding.

module _ (s : List ℕ) (i b : ℕ) where
  pub found : i < length s → get_or s i 0 ≡ b → i ≡ place_of s i b
  unfolding place_of before
  found h e = rw (drop-cons s i 0 h, eq-eqb _ _ e) (omega arith)

  pub not_here : i < length s → (get_or s i 0 ≡ b → ⊥) → place_of s (i + 1) b ≡ place_of s i b
  unfolding place_of before
  not_here h e = rw (drop-cons s i 0 h, ne_eqb _ _ e, add-one) (omega arith)

  pub at-end : length s ≤ i → length s ≡ place_of s i b
  unfolding place_of before
  at-end h = rw (drop_of_length-le s h) (omega arith)
