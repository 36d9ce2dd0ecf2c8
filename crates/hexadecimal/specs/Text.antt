-- The bytes that a text has in hexadecimal, and places in a text.
use Rattle.std.specs.Prelude.{cond, ◌&&◌, List, [], ◌∷◌, ℕ, suc, ◌+◌, ◌*◌, ◌-◌, min, eqb, leb, length, take, drop}

-- the value of a digit: 0 to 9, or a to f in small letters; 0 for any other character
unfoldable pub digit_of : ℕ → ℕ
digit_of b = cond (leb 48 b && leb b 57) (b - 48) (cond (leb 97 b && leb b 102) (b - 87) 0)

abbrev pub byte_of : ℕ → ℕ → ℕ
byte_of high low = digit_of high * 16 + digit_of low

-- two characters make a byte; one that is left over makes none
unfoldable pub bytes_of : List ℕ → List ℕ
bytes_of [] = []
bytes_of (a ∷ []) = []
bytes_of (a ∷ b ∷ cs) = byte_of a b ∷ bytes_of cs

-- the bytes of a text from its second character on, as many as there are places
unfoldable pub decoded : List ℕ → ℕ → List ℕ
decoded text places = take places (bytes_of (drop 1 text))

-- how many elements stand before the first b
unfoldable pub before : ℕ → List ℕ → ℕ
before b [] = 0
before b (x ∷ xs) = cond (eqb x b) 0 (suc (before b xs))

-- the place of the first b from a place on, or the end
unfoldable pub place_of : List ℕ → ℕ → ℕ → ℕ
place_of s from b = min from (length s) + before b (drop from s)
