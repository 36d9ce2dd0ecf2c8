use Rattle.std.specs.Prelude.{◌≡◌, ℕ, List, map, ◌<◌, ◌≤◌, length, get_or}
use mathlib.Core.Path.{refl, sym, ◌∙◌}
use Rattle.std.proofs.lemmas.List.{get_or-map, length-map}
use Rattle.dutyfile.proofs.Rising.{rising-low, rising_high, rising_step, rising-end}
use Rattle.dutyfile.proofs.rises.Goals as goal

-- the number that is tested is the one at its place among the values
here : {A : Type 0} (f : A → ℕ) (xs : List A) (i : ℕ) (x : A) (y : ℕ) → i < length xs → x ≡ get_or xs i x → y ≡ f x → y ≡ get_or (map f xs) i 0
here f xs i x y inside is e = rw (get_or-map f xs i x 0 inside, ← is) e

over : {A : Type 0} (f : A → ℕ) (xs : List A) (i : ℕ) → length xs ≤ i → length (map f xs) ≤ i
over f xs i h = rw (length-map xs f) h

counted : {A : Type 0} (f : A → ℕ) (xs : List A) (i : ℕ) → i < length xs → i < length (map f xs)
counted f xs i h = rw (length-map xs f) h

pub loop-number-init : goal.loop-number-init
loop-number-init g c = refl

pub returns-then-next-last : goal.returns-then-next-last
returns-then-next-last g c =
    let e = here _ _ _ _ _ c.loop-number-test.true c.number-item.is c.value-next.ensures in
    sym (sym c.loop-number.invariant ∙ rising-low _ _ _ _ (counted _ _ _ c.loop-number-test.true) (rw e at c.if-next-last.true))

pub returns-then-most-next : goal.returns-then-most-next
returns-then-most-next g c =
    let e = here _ _ _ _ _ c.loop-number-test.true c.number-item.is c.value-next.ensures in
    sym (sym c.loop-number.invariant ∙ rising_high _ _ _ _ (counted _ _ _ c.loop-number-test.true) (rw e at c.if-next-last.false) (rw e at c.if-most-next.true))

pub loop-number-preserved : goal.loop-number-preserved
loop-number-preserved g c =
    let e = here _ _ _ _ _ c.loop-number-test.true c.number-item.is c.value-next.ensures in
    rw e (sym (rising_step _ _ _ _ (counted _ _ _ c.loop-number-test.true) (rw e at c.if-next-last.false) (rw e at c.if-most-next.false)) ∙ c.loop-number.invariant)

pub returns : goal.returns
returns g c = sym (sym c.loop-number.invariant ∙ rising-end _ _ _ _ (over _ _ _ c.loop-number-test.false))
