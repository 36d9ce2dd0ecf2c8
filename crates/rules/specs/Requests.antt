-- What a desk asks of a plan besides (02, from P2 on): where the search then starts, what it does at every node, and which choices count.
use Rattle.std.specs.Prelude.{Bool, List, [], map, ℕ, ◌-◌}
use Rattle.node.specs.declared.Node.{Node}
use Rattle.node.specs.Matrix.{Matrix, IsPlan}
use Rattle.rules.specs.declared.Forced.{Forced}
use Rattle.rules.specs.Tree.{Variant}
use Rattle.rules.specs.Agreed.{agreed_start, struck, Agreeing}
use Rattle.rules.specs.Pairs.{pairs_of, with_pairs, Paired}

-- the lists as they are lent, with columns numbered from 1
pub record Requests : Type 0 where
  pub agreed : List ℕ
  pub absent : List ℕ
  pub pairs : List ℕ

abbrev pub asking : List ℕ → List ℕ → List ℕ → Requests
asking agreed absent pairs = record { agreed = agreed; absent = absent; pairs = pairs }

-- nothing is asked
abbrev pub unasked : Requests
unasked = asking [] [] []

-- the columns with these numbers
abbrev pub columns_of : List ℕ → List ℕ
columns_of = map (λ j. j - 1)

-- the columns that a plan must hold: the agreed ones that are not absent (02, P9)
abbrev pub to_hold : Requests → List ℕ
to_hold q = columns_of (struck q.agreed q.absent)

-- the start of a search, from the root
unfoldable pub begun : Variant → Matrix → Requests → Node → Forced
begun o p q = agreed_start o.join p (to_hold q) (columns_of q.absent)

-- the same before P9: nothing is struck from the agreed list
unfoldable pub unstruck_start : Variant → Matrix → Requests → Node → Forced
unstruck_start o p q = agreed_start o.join p (columns_of q.agreed) (columns_of q.absent)

-- a search with what is asked at every node
abbrev pub requested : Matrix → Requests → Variant → Variant
requested p q o = with_pairs p (pairs_of q.pairs) o

-- the choices that count: the plans that obey the pairs, hold every agreed column that is not absent, and no absent one
abbrev pub Granted : Matrix → Requests → (ℕ → Bool) → Type 0
Granted p q = Agreeing (Paired (IsPlan p) (pairs_of q.pairs)) (to_hold q) (columns_of q.absent)
