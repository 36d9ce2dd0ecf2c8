-- Columns that must be in a plan (02, P2: agreed) and columns that must not (absent), in any search. Once the root is entered, the absent
-- columns stop being free, then the agreed ones are taken in list sequence; one that is not free at its own turn makes the root dead. An
-- absent column is struck from the agreed list first (02, P9).
use Rattle.std.specs.Prelude.{◌≡◌, Bool, true, false, not, cond, List, [], ◌∷◌, ℕ}
use Rattle.node.specs.declared.Node.{Node}
use Rattle.node.specs.Lists.{keep, member}
use Rattle.node.specs.Matrix.{Matrix}
use Rattle.node.specs.Node.{is_free, take, leave}
use Rattle.rules.specs.declared.Forced.{Forced}
use Rattle.rules.specs.Tree.{live, dead}

-- the columns of a list stop being free
unfoldable pub without : List ℕ → Node → Node
without [] s = s
without (j ∷ js) s = without js (cond (is_free s j) (leave s j) s)

-- the columns of a list are taken in its sequence: `join s j` is the bound of s with column j taken
unfoldable pub with_all : (Node → ℕ → ℕ) → Matrix → List ℕ → Node → Forced
with_all join p [] s = live s
with_all join p (j ∷ js) s = cond (is_free s j) (with_all join p js (take p s j (join s j))) (dead s)

-- the start that lists of agreed and of absent columns give, from the root
unfoldable pub agreed_start : (Node → ℕ → ℕ) → Matrix → List ℕ → List ℕ → Node → Forced
agreed_start join p agreed absent s = with_all join p agreed (without absent s)

-- an agreed list without what is absent
unfoldable pub struck : List ℕ → List ℕ → List ℕ
struck agreed absent = keep (λ j. not (member j absent)) agreed

-- a choice is allowed, holds every agreed column and no absent one
pub record Agreeing (Ok : (ℕ → Bool) → Type 0) (agreed absent : List ℕ) (X : ℕ → Bool) : Type 0 where
  pub ok : Ok X
  pub holds : (j : ℕ) → member j agreed ≡ true → X j ≡ true
  pub lacks : (j : ℕ) → member j absent ≡ true → X j ≡ false
