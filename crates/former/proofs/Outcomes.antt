-- Two calls with the same tests, whose answers agree where these pass: what they come to, and the lists that they fill.
use mathlib.Core.Path.{◌≡◌, refl}
use mathlib.Core.List.{List}
use Rattle.refusals.specs.Refusals.{Fault, fine, fault, unless, filled}
use Rattle.former.specs.Answers.{map_outcome}

module _ {A B : Type 0} (f : Fault) {g : Fault} (is : f ≡ g) (b : B) (a : A) where
  pub same_outcome : (h : A → B) → (f ≡ fine → b ≡ h a) → unless f b ≡ map_outcome h (unless g a)
  unfolding unless map_outcome
  same_outcome h e = rw (← is) (go f e)
    where
      go : (f : Fault) → (f ≡ fine → b ≡ h a) → unless f b ≡ map_outcome h (unless f a)
      go fine e = rw (e refl)
      go (fault k) e = refl

  pub same-filled : {C : Type 0} {new former : List C} (old : List C) → (f ≡ fine → new ≡ former) → filled (unless f b) new old ≡ filled (unless g a) former old
  unfolding unless filled
  same-filled {new} {former} old e = rw (← is) (go f e)
    where
      go : (f : Fault) → (f ≡ fine → new ≡ former) → filled (unless f b) new old ≡ filled (unless f a) former old
      go fine e = rw (e refl)
      go (fault k) e = refl
