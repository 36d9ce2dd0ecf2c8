-- The pairs that are left to be gone through, from a place of their list on, give what all of them give.
use mathlib.Core.Path.{◌≡◌, refl, ap, sym, ◌∙◌}
use mathlib.Core.Bool.{Bool, true, false, ◌||◌}
use mathlib.Core.List.{List, [], ◌∷◌, map}
use Prim.Native.Nat.{ℕ, zero, suc, ◌+◌, ◌-◌, ◌/◌, ◌≤◌, ◌<◌}
use native.Mathlib.Omega.{arith}
use native.Mathlib.Numerals.{add-one}
use lib.ListN.{length, get_or, drop, drop_of_length-le}
use lib.Seq.{drop-cons}
use Rattle.std.specs.Simd.{first_chunks}
use Rattle.node.specs.declared.Node.{Node}
use Rattle.node.specs.Matrix.{Matrix, width}
use Rattle.node.specs.Node.{take, leave}
use Rattle.node.specs.View.{view}
use Rattle.node.specs.Stored.{matrix_in}
use Rattle.rules.specs.declared.Goal.{Goal}
use Rattle.rules.specs.declared.PairAsked.{PairAsked}
use Rattle.rules.specs.declared.PairAsked.TheVariants.{TakeSecond, Dead, LeaveFirst, Nothing}
use Rattle.rules.specs.Goals.{search_for}
use Rattle.rules.specs.Tree.{Variant, live, dead}
use Rattle.rules.specs.Pairs.{Pair, pair, Passed, pairs_of, pair_asked, pass_on, pass}
use Rattle.rules.proofs.Plans.{Free}
use Rattle.rules.proofs.Goals.{WorkableFor, goal_steps}
use Rattle.rules.proofs.Pairs.{asked_why}
use Rattle.rules.proofs.Numbers.{Numbers}
use Rattle.rules.proofs.Sides.{WorkableWith}
use Rattle.goals.specs.Taking.{Takes}
use Rattle.pairs.specs.Asks.{asks, some_asks, node_after}

-- what a pair asks depends on the marks of columns alone
pub pair-marks : (s : Node) (q : Pair) → pair_asked (view [] s.column []) q ≡ pair_asked s q
unfolding pair_asked
pair-marks s q = refl

-- something is asked
pub asks-some : (x : PairAsked) → (x ≡ Nothing → ⊥) → asks x ≡ true
asks-some TakeSecond h = refl
asks-some Dead h = refl
asks-some LeaveFirst h = refl
asks-some Nothing h = absurd (h refl)

-- two numbers at a time, as the code goes through a list
abbrev pub twos : List ℕ → List (List ℕ)
twos ns = first_chunks 2 (length ns / 2) ns

twos-more : (a b : ℕ) (ns : List ℕ) → twos (a ∷ (b ∷ ns)) ≡ (a ∷ (b ∷ [])) ∷ twos ns
twos-more a b ns = let e : suc (suc (length ns)) / 2 ≡ suc (length ns / 2) = omega arith in rw e

-- both are from 1 to n
abbrev pub BothIn : ℕ → List ℕ → Type 0
BothIn n q = ((1 ≤ get_or q 0 0) × (get_or q 0 0 ≤ n)) × ((1 ≤ get_or q 1 0) × (get_or q 1 0 ≤ n))

twos_in : (n : ℕ) (ns : List ℕ) (k : ℕ) → Numbers n ns → k < length (twos ns) → BothIn n (get_or (twos ns) k [])
twos_in n [] k h l = absurd (omega arith)
twos_in n (a ∷ []) k h l = absurd (omega arith)
twos_in n (a ∷ (b ∷ ns)) zero h l = rw (twos-more a b ns) (h 0 (omega arith), h 1 (omega arith))
twos_in n (a ∷ (b ∷ ns)) (suc k) h l =
    rw (twos-more a b ns) (twos_in n ns k (λ i m. h (suc (suc i)) (omega arith)) (omega (arith, ap length (twos-more a b ns))))

pub both_in : (n : ℕ) (ns : List ℕ) (qs : List (List ℕ)) → qs ≡ twos ns → Numbers n ns → (k : ℕ) → k < length qs → BothIn n (get_or qs k [])
both_in n ns qs e h k l = rw e (twos_in n ns k h (rw e at l))

-- so both are numbers of columns
pub both_low : (n : ℕ) (ns : List ℕ) (qs : List (List ℕ)) → qs ≡ twos ns → Numbers n ns → n ≤ 256 → (k : ℕ) → k < length qs →
    (get_or (get_or qs k []) 0 0 - 1 < 256) × (get_or (get_or qs k []) 1 0 - 1 < 256)
both_low n ns qs e h w k l =
    let b = both_in n ns qs e h k l in
    (omega (arith, b.0.0, b.0.1), omega (arith, b.1.0, b.1.1))

-- the pair of two numbers, and the pairs from place k on
abbrev pub at : List ℕ → Pair
at q = pair (get_or q 0 0 - 1) (get_or q 1 0 - 1)

abbrev rest : List (List ℕ) → ℕ → List Pair
rest qs k = map at (drop k qs)

whole-list : (ns : List ℕ) → map at (twos ns) ≡ pairs_of ns
unfolding pairs_of
whole-list [] = refl
whole-list (a ∷ []) = refl
whole-list (a ∷ (b ∷ ns)) = rw (twos-more a b ns, whole-list ns)

rest_start : (ns : List ℕ) (qs : List (List ℕ)) → qs ≡ twos ns → rest qs 0 ≡ pairs_of ns
rest_start ns qs e = rw e (whole-list ns)

rest-step : (qs : List (List ℕ)) (k : ℕ) → k < length qs → rest qs k ≡ at (get_or qs k []) ∷ rest qs (k + 1)
rest-step qs k l = rw (add-one k) (ap (map at) (drop-cons qs k [] l))

rest_end : (qs : List (List ℕ)) (k : ℕ) → length qs ≤ k → rest qs k ≡ []
rest_end qs k l = ap (map at) (drop_of_length-le qs l)

-- at place k, with no pair before it that asks anything
pub record Looking (marks ns : List ℕ) (qs : List (List ℕ)) (k : ℕ) : Type 0 where
  pub left : some_asks marks (rest qs k) ≡ some_asks marks (pairs_of ns)

pub looking_start : (marks ns : List ℕ) (qs : List (List ℕ)) → qs ≡ twos ns → Looking marks ns qs 0
looking_start marks ns qs e = record { left = ap (some_asks marks) (rest_start ns qs e) }

module _ (marks ns : List ℕ) (qs : List (List ℕ)) (k : ℕ) (w : Looking marks ns qs k) where
  module _ (l : k < length qs) (found : PairAsked) (told : found ≡ pair_asked (view [] marks []) (at (get_or qs k []))) where
    step : (b : Bool) → asks found ≡ b → (b || some_asks marks (rest qs (k + 1))) ≡ some_asks marks (pairs_of ns)
    unfolding some_asks
    step b e = rw (← e, told) (sym (ap (some_asks marks) (rest-step qs k l)) ∙ w.left)

    pub looking_found : asks found ≡ true → true ≡ some_asks marks (pairs_of ns)
    looking_found e = step true e

    pub looking_next : asks found ≡ false → Looking marks ns qs (k + 1)
    looking_next e = record { left = step false e }

  pub looking_end : length qs ≤ k → false ≡ some_asks marks (pairs_of ns)
  unfolding some_asks
  looking_end l = sym (ap (some_asks marks) (rest_end qs k l)) ∙ w.left

-- at place k, with the pairs before it gone through
pub record Passing (g : Goal) (l ns : List ℕ) (qs : List (List ℕ)) (s₀ s : Node) (k : ℕ) : Type 0 where
  pub some : WorkableFor g l s
  pub changed : Bool
  pub left : pass (search_for g (matrix_in l)).join (matrix_in l) (rest qs k) s changed
      ≡ pass (search_for g (matrix_in l)).join (matrix_in l) (pairs_of ns) s₀ false

pub passing_start : (g : Goal) (l ns : List ℕ) (qs : List (List ℕ)) (s : Node) → WorkableWith g ns l s → qs ≡ twos ns → Passing g l ns qs s s 0
passing_start g l ns qs s w e = record {
  some = w.some;
  changed = false;
  left = ap (λ (rs : List Pair). pass (search_for g (matrix_in l)).join (matrix_in l) rs s false) (rest_start ns qs e);
}

module _ (g : Goal) (l ns : List ℕ) (qs : List (List ℕ)) (s₀ s : Node) (k : ℕ) (w : Passing g l ns qs s₀ s k) where
  abbrev p : Matrix
  p = matrix_in l

  abbrev o : Variant
  o = search_for g (matrix_in l)

  abbrev c : Bool
  c = w.changed

  abbrev whole : Passed
  whole = pass (search_for g (matrix_in l)).join (matrix_in l) (pairs_of ns) s₀ false

  module _ (within : k < length qs) (found : PairAsked)
      (told : found ≡ pair_asked (view [] s.column []) (at (get_or qs k []))) where
    is : found ≡ pair_asked s (at (get_or qs k []))
    is = told ∙ pair-marks s (at (get_or qs k []))

    next : pass_on o.join p found (at (get_or qs k [])) s c (pass o.join p (rest qs (k + 1))) ≡ whole
    unfolding pass
    next = rw is (sym (ap (λ (rs : List Pair). pass o.join p rs s c) (rest-step qs k within)) ∙ w.left)

    pub passing_dead : found ≡ Dead → dead s ≡ node_after whole
    unfolding pass_on
    passing_dead h = ap node_after (rw h at next)

    pub passing_nothing : found ≡ Nothing → Passing g l ns qs s₀ s (k + 1)
    unfolding pass_on
    passing_nothing h = record { some = w.some; changed = c; left = rw h at next }

    module _ (f : BothIn (width (matrix_in l)) (get_or qs k [])) where
      -- the first is free and is left
      module _ (h : found ≡ LeaveFirst) where
        leaves : Free p s (get_or (get_or qs k []) 0 0 - 1)
        leaves =
            record { col = omega (arith, f.0.0, f.0.1); is_free_true = (rw (sym is ∙ h) at (asked_why s (at (get_or qs k [])))).0 }

        pub passing_leaves : (t : Node) → t ≡ leave s (get_or (get_or qs k []) 0 0 - 1) → Passing g l ns qs s₀ t (k + 1)
        unfolding pass_on
        passing_leaves t e = record {
          some = rw e ((goal_steps g l w.some.kept).leaving s _ leaves w.some);
          changed = true;
          left = rw e (rw h at next);
        }

      -- the second is free and is taken
      module _ (h : found ≡ TakeSecond) where
        pub passing_takes : Takes g l s (get_or (get_or qs k []) 1 0 - 1)
        passing_takes =
            record {
              some = w.some;
              free = record { col = omega (arith, f.1.0, f.1.1); is_free_true = (rw (sym is ∙ h) at (asked_why s (at (get_or qs k [])))).1 };
            }

        pub passing_taken : (t : Node) → t ≡ take p s (get_or (get_or qs k []) 1 0 - 1) (o.join s (get_or (get_or qs k []) 1 0 - 1)) → Passing g l ns qs s₀ t (k + 1)
        unfolding pass_on
        passing_taken t e = record {
          some = rw e ((goal_steps g l w.some.kept).taking s _ passing_takes.free w.some);
          changed = true;
          left = rw e (rw h at next);
        }

  pub passing_end : length qs ≤ k → live s ≡ node_after whole
  unfolding pass
  passing_end h = ap node_after (sym (ap (λ (rs : List Pair). pass o.join p rs s c) (rest_end qs k h)) ∙ w.left)
