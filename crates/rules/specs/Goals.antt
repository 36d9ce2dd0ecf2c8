-- The two goals of a search, for code that serves both.
use Rattle.std.specs.Prelude.{Bool, List, ℕ}
use Rattle.node.specs.Matrix.{Matrix, price}
use Rattle.rules.specs.declared.Goal.{Goal}
use Rattle.rules.specs.declared.Goal.TheVariants.{Sum, Longest}
use Rattle.rules.specs.Tree.{Variant, sum}
use Rattle.rules.specs.Longest.{dearest, longest}
use Rattle.rules.specs.Pairs.{pairs_of, with_pairs}

-- the search, and what a choice costs
unfoldable pub search_for : Goal → Matrix → Variant
search_for Sum p = sum p
search_for Longest p = longest p

unfoldable pub value_for : Goal → Matrix → List ℕ → (ℕ → Bool) → ℕ
value_for Sum p cs = price p cs
value_for Longest p cs = dearest p cs

-- the search with side constraints, which code hands down to every node as one list: the pairs as they are lent (02, P8)
abbrev pub search_with : Goal → List ℕ → Matrix → Variant
search_with g side p = with_pairs p (pairs_of side) (search_for g p)
