-- The digits that the library writes for a number are its decimal text: both put the last digit after the text of the digits before it.
use mathlib.Core.Path.{◌≡◌, refl, ◌∙◌}
use Prim.Native.Nat.{ℕ, zero, suc, ◌-◌, ◌*◌, ◌/◌, ◌%◌, ◌^◌, ◌≤◌, ◌<◌}
use native.Mathlib.Nat.{le_of_suc-le-suc, lt_of_not-le, pow-suc, one-le-pow, pow-le-pow_right}
use native.Mathlib.Omega.{arith}
use borrow.Author.Tests.{lt-ltb, le-ltb}
use lib.ListN.{length, length-append}
use Rattle.io.specs.Digits.{hex_digit_ascii, last_digits, IsDigitCount}
use Rattle.line.specs.Line.{digit, decimal}

pub length_digits : (k n : ℕ) → length (last_digits 10 k n) ≡ k
length_digits zero n = refl
length_digits (suc k) n =
    let e : length (last_digits 10 k (n / 10)) ≡ k = length_digits k (n / 10) in
    length-append (last_digits 10 k (n / 10)) _ ∙ omega (arith, e)

glyph_digit : (d : ℕ) → d < 10 → hex_digit_ascii d ≡ digit d
glyph_digit d h = rw (lt-ltb d 10 h)

least : (k n : ℕ) → IsDigitCount 10 1 n (suc (suc k)) → 10 ^ suc k ≤ n
least k n w =
    let e : suc (suc k) - 1 ≡ suc k = omega arith in
    rw e at (w.2 (omega arith))

-- what is left of a number that has two digits or more is held by one digit less
fewer : (k n : ℕ) → IsDigitCount 10 1 n (suc (suc k)) → IsDigitCount 10 1 (n / 10) (suc k)
fewer k n w =
    let a : 10 ^ suc (suc k) ≡ 10 ^ suc k * 10 = pow-suc 10 (suc k) in
    let b : 10 ^ suc k ≡ 10 ^ k * 10 = pow-suc 10 k in
    let high : n < 10 ^ suc (suc k) = w.1 in
    let low : 10 ^ suc k ≤ n = least k n w in
    let e : suc k - 1 ≡ k = omega arith in
    (omega arith, omega (arith, a, high), λ _. rw e (omega (arith, b, low)))

pub spelled : (k f n : ℕ) → IsDigitCount 10 1 n k → k ≤ f → last_digits 10 k n ≡ decimal f n
unfolding decimal
spelled zero f n w h = absurd (omega (arith, w.0))
spelled (suc k) zero n w h = absurd (omega arith)
spelled (suc zero) (suc f) n w h =
    let small : n < 10 = w.1 in
    let e : n % 10 ≡ n = omega arith in
    rw (lt-ltb n 10 small, e, glyph_digit n small)
spelled (suc (suc k)) (suc f) n w h =
    let b : 10 ^ suc k ≡ 10 ^ k * 10 = pow-suc 10 k in
    let one : 1 ≤ 10 ^ k = one-le-pow k 10 (omega arith) in
    let low : 10 ^ suc k ≤ n = least k n w in
    rw (le-ltb n 10 (omega (arith, b, one, low)), spelled (suc k) f (n / 10) (fewer k n w) (omega arith), glyph_digit (n % 10) (omega arith))

-- twenty digits hold a number of 64 bits
pub few_digits : (k n : ℕ) → IsDigitCount 10 1 n k → n < 10 ^ 20 → k ≤ 20
few_digits k n w h = le_of_suc-le-suc (lt_of_not-le (λ (over : 20 < k).
    let low : 10 ^ (k - 1) ≤ n = w.2 (omega arith) in
    let ten : 0 < 10 = omega arith in
    let within : 20 ≤ k - 1 = omega arith in
    let more : 10 ^ 20 ≤ 10 ^ (k - 1) = pow-le-pow_right ten within in
    omega (arith, low, more, h)))
