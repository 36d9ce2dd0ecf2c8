-- The line that the program prints (01, The program and the plan check).
use Rattle.std.specs.Prelude.{cond, List, [], ◌∷◌, ◌++◌, ℕ, zero, suc, ◌+◌, ◌/◌, ◌%◌, ltb, ℤ, pos, negsuc}
use Rattle.refusals.specs.Refusals.{Outcome, accepted, refused}
use Rattle.answer.specs.Answer.{Values, told_best, told_none, told_stopped, no_plan, priced}

-- the ASCII code of a digit
abbrev pub digit : ℕ → ℕ
digit d = 48 + d

-- a number in decimal, with no zero in front, where it has at most this many digits
unfoldable pub decimal : ℕ → ℕ → List ℕ
decimal zero n = []
decimal (suc k) n = cond (ltb n 10) (digit n ∷ []) (decimal k (n / 10) ++ (digit (n % 10) ∷ []))

-- a minus sign stands before a number below 0; no number of 64 bits has more than 20 digits
unfoldable pub decimal_z : ℤ → List ℕ
decimal_z (pos n) = decimal 20 n
decimal_z (negsuc n) = 45 ∷ decimal 20 (suc n)

-- a space and a number
unfoldable pub field : ℤ → List ℕ
field z = 32 ∷ decimal_z z

unfoldable pub fields : List ℤ → List ℕ
fields [] = []
fields (z ∷ zs) = field z ++ fields zs

-- the words best, none, stopped and refused, and what stands for the price of no plan: a space and a minus sign
abbrev pub best : List ℕ
best = 98 ∷ 101 ∷ 115 ∷ 116 ∷ []

abbrev pub none : List ℕ
none = 110 ∷ 111 ∷ 110 ∷ 101 ∷ []

abbrev pub stopped : List ℕ
stopped = 115 ∷ 116 ∷ 111 ∷ 112 ∷ 112 ∷ 101 ∷ 100 ∷ []

abbrev pub refusal : List ℕ
refusal = 114 ∷ 101 ∷ 102 ∷ 117 ∷ 115 ∷ 101 ∷ 100 ∷ []

abbrev pub dash : List ℕ
dash = 32 ∷ 45 ∷ []

-- a word and numbers: price, root floor, nodes, duties; or nodes; or the number of a refusal
unfoldable pub words_of : Outcome Values → List ℕ
words_of (accepted (told_best price floor nodes duties)) = best ++ fields (price ∷ floor ∷ pos nodes ∷ pos duties ∷ [])
words_of (accepted (told_none nodes)) = none ++ fields (pos nodes ∷ [])
words_of (accepted (told_stopped floor nodes (priced price duties))) = stopped ++ fields (price ∷ floor ∷ pos nodes ∷ pos duties ∷ [])
words_of (accepted (told_stopped floor nodes no_plan)) = stopped ++ dash ++ fields (floor ∷ pos nodes ∷ pos 0 ∷ [])
words_of (refused number) = refusal ++ fields (pos number ∷ [])

-- a line feed ends the line
unfoldable pub line_of : Outcome Values → List ℕ
line_of o = words_of o ++ (10 ∷ [])
