-- What a node comes to: forced, and reduced where it is alive and has open rows.
use Rattle.std.specs.Prelude.{Bool, true, false, List, [], ◌∷◌, ℕ}
use Rattle.node.specs.declared.Node.{Node}
use Rattle.node.specs.Matrix.{Matrix}
use Rattle.node.specs.Node.{open_rows}
use Rattle.rules.specs.declared.Forced.{Forced}
use Rattle.rules.specs.Tree.{Variant}
use Rattle.visit.specs.declared.Settled.{Settled}

-- by the open rows of a forced node
unfoldable pub settled_by : Variant → Bool → Node → List ℕ → Settled
settled_by o false s is = record { node = s; alive = false; full = false }
settled_by o true s [] = record { node = s; alive = true; full = true }
settled_by o true s (i ∷ is) = record { node = o.lowered s; alive = true; full = false }

unfoldable pub settled : Variant → Matrix → Node → Settled
settled o p s = let f : Forced = o.settle s in settled_by o f.alive f.node (open_rows p f.node)
