-- A plan met is kept unless there is an incumbent that costs no more.
use mathlib.Core.Path.{◌≡◌, refl}
use mathlib.Core.Bool.{Bool, true, false, ◌&&◌, false≢true}
use mathlib.Core.List.{List}
use Prim.Native.Nat.{ℕ}
use lib.Dec.{leb}
use borrow.Author.Tests.{leb-true, leb-false, le-ltb, lt-ltb}
use Rattle.rules.specs.Search.{improve, reaches}
use Rattle.tally.specs.Tally.{kept_by}

module _ (c b : ℕ) (js ks : List ℕ) where
  -- an incumbent of cost c, and a plan of cost b
  pub stays : (k : Bool) → (k && leb c b) ≡ true → kept_by k c js ≡ improve (kept_by k c js) b ks
  unfolding kept_by improve
  stays true h = rw (le-ltb b c (leb-true c b h))
  stays false h = absurd (false≢true h)

  pub yields : (k : Bool) → (k && leb c b) ≡ false → kept_by true b ks ≡ improve (kept_by k c js) b ks
  unfolding kept_by improve
  yields true h = rw (lt-ltb b c (leb-false c b h))
  yields false h = refl

-- whether a bound b reaches it
pub reached : (c b : ℕ) (js : List ℕ) (k : Bool) → (k && leb c b) ≡ reaches b (kept_by k c js)
unfolding kept_by reaches
reached c b js true = refl
reached c b js false = refl
