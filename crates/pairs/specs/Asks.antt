-- Whether some pair asks anything of a node, and the node when the pairs have been gone through.
use Rattle.std.specs.Prelude.{Bool, true, false, ◌||◌, List, [], ◌∷◌, ℕ}
use Rattle.node.specs.View.{view}
use Rattle.rules.specs.declared.PairAsked.{PairAsked}
use Rattle.rules.specs.declared.PairAsked.TheVariants.{TakeSecond, Dead, LeaveFirst, Nothing}
use Rattle.rules.specs.declared.Forced.{Forced}
use Rattle.rules.specs.Pairs.{Pair, pair_asked, Passed}

-- whether anything is asked
abbrev pub asks : PairAsked → Bool
asks TakeSecond = true
asks Dead = true
asks LeaveFirst = true
asks Nothing = false

-- by some pair, of a node with these marks
unfoldable pub some_asks : List ℕ → List Pair → Bool
some_asks marks [] = false
some_asks marks (q ∷ qs) = asks (pair_asked (view [] marks []) q) || some_asks marks qs

-- the node, and whether it is alive
abbrev pub node_after : Passed → Forced
node_after r = record { node = r.node; alive = r.alive }
