-- The pairs that are left to be tested, from a place of their list on, give what all of them give; and a list that passes its tests holds
-- numbers of columns.
use mathlib.Core.Path.{◌≡◌, refl, ap, sym, ◌∙◌}
use mathlib.Core.Bool.{Bool, true, false, ◌&&◌}
use mathlib.Core.List.{List, [], ◌∷◌}
use Prim.Native.Nat.{ℕ, zero, suc, ◌+◌, ◌%◌, ◌≤◌, ◌<◌}
use native.Mathlib.Nat.{add-mod_left}
use native.Mathlib.Omega.{arith}
use lib.ListN.{length, get_or, drop}
use borrow.Author.Tests.{eqb-true, leb-true}
use Rattle.refusals.specs.Refusals.{fine}
use Rattle.refusals.proofs.Laws.{both, asked}
use Rattle.node.proofs.Members.{and_both}
use Rattle.rules.proofs.Numbers.{Numbers, drop-two, drop-few}
use Rattle.search.specs.Requests.{is_pair, are_pairs, pair_fault}

-- at place k, with the pairs before it tested
pub record Testing (n : ℕ) (ns : List ℕ) (k : ℕ) : Type 0 where
  pub low : k ≤ length ns
  pub left : are_pairs n (drop k ns) ≡ are_pairs n ns

pub testing_start : (n : ℕ) (ns : List ℕ) → Testing n ns 0
testing_start n ns = record { low = omega arith; left = refl }

module _ (n : ℕ) (ns : List ℕ) (k : ℕ) (w : Testing n ns k) where
  module _ (l : k + 1 < length ns) where
    step : (b : Bool) → b ≡ is_pair n (get_or ns k 0) (get_or ns (k + 1) 0) → (b && are_pairs n (drop (k + 2) ns)) ≡ are_pairs n ns
    unfolding are_pairs
    step b e = rw e (sym (ap (are_pairs n) (drop-two ns k l)) ∙ w.left)

    pub testing_fails : (b : Bool) → b ≡ is_pair n (get_or ns k 0) (get_or ns (k + 1) 0) → b ≡ false → false ≡ are_pairs n ns
    testing_fails b e h = rw h at (step b e)

    pub testing_next : (b : Bool) → b ≡ is_pair n (get_or ns k 0) (get_or ns (k + 1) 0) → b ≡ true → Testing n ns (k + 2)
    testing_next b e h = record { low = omega arith; left = rw h at (step b e) }

  pub testing_end : length ns ≤ k + 1 → true ≡ are_pairs n ns
  unfolding are_pairs
  testing_end l = sym (drop-few (λ ms. are_pairs n ms ≡ true) ns k l refl (λ x. refl)) ∙ w.left

-- a list that passes its tests
pair_parts : (n a b : ℕ) → is_pair n a b ≡ true → ((1 ≤ a) × (a ≤ n)) × ((1 ≤ b) × (b ≤ n))
pair_parts n a b e =
    let p = and_both e in
    let f = and_both p.0 in
    let s = and_both (and_both p.1).0 in
    ((leb-true 1 a f.0, leb-true a n f.1), (leb-true 1 b s.0, leb-true b n s.1))

even_pairs : (n : ℕ) (ns : List ℕ) → length ns % 2 ≡ 0 → are_pairs n ns ≡ true → Numbers n ns
unfolding are_pairs
even_pairs n [] e h = λ k l. absurd (omega arith)
even_pairs n (a ∷ []) e h = absurd (let z : ◌≡◌ {A = ℕ} 1 0 = e in omega arith)
even_pairs n (a ∷ (b ∷ ns)) e h =
    let two : 2 + length ns ≡ suc (suc (length ns)) = omega arith in
    let p = and_both h in
    go (pair_parts n a b p.0) (even_pairs n ns (sym (add-mod_left 2 (length ns)) ∙ rw two e) p.1)
  where
    go : ((1 ≤ a) × (a ≤ n)) × ((1 ≤ b) × (b ≤ n)) → Numbers n ns → Numbers n (a ∷ (b ∷ ns))
    go x r zero l = x.0
    go x r (suc zero) l = x.1
    go x r (suc (suc k)) l = r k (omega arith)

pub pair-numbers : (n : ℕ) (ns : List ℕ) → pair_fault n ns ≡ fine → Numbers n ns
unfolding pair_fault
pair-numbers n ns h =
    let b = both _ _ h in
    even_pairs n ns (eqb-true (length ns % 2) 0 (asked _ 21 b.0)) (asked _ 20 (both _ _ b.1).1)
