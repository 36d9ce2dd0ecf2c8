-- Lists that pass their tests hold numbers of columns of the matrix, and none twice.
use mathlib.Core.Path.{◌≡◌, refl}
use mathlib.Core.Bool.{true, false}
use mathlib.Core.List.{List, [], ◌∷◌}
use Prim.Native.Nat.{ℕ, ◌-◌, ◌<◌}
use native.Mathlib.Omega.{arith}
use borrow.Author.Tests.{ne_eqb}
use Rattle.refusals.specs.Refusals.{fine}
use Rattle.refusals.proofs.Laws.{both, asked}
use Rattle.node.specs.Lists.{member}
use Rattle.node.specs.Matrix.{Matrix, width}
use Rattle.rules.specs.Requests.{Requests, columns_of}
use Rattle.rules.proofs.Agreed.{Distinct}
use Rattle.rules.proofs.Requests.{Askable}
use Rattle.dutyfile.specs.declared.Shape.{Shape}
use Rattle.dutyfile.specs.Faults.{rising}
use Rattle.dutyfile.proofs.Rising.{rising-at, rising_cons}
use Rattle.rules.proofs.Numbers.{Numbers, numbers-inside, numbers-pairs}
use Rattle.search.specs.Requests.{pair_fault, request_fault}
use Rattle.search.proofs.Paired.{pair-numbers}

-- of a rising list: no column up to the lower bound is there
none_below : (low high : ℕ) (js : List ℕ) (j : ℕ) → rising low high js ≡ true → j < low → member j (columns_of js) ≡ false
unfolding member
none_below low high [] j e l = refl
none_below low high (x ∷ xs) j e l =
    let c = rising_cons low high x xs e in
    simp (ne_eqb j (x - 1) (λ q. omega (arith, c.0, q)), none_below x high xs j c.2 (omega (arith, c.0)))

rising_distinct : (low high : ℕ) (js : List ℕ) → rising low high js ≡ true → Distinct (columns_of js)
rising_distinct low high [] e = tt
rising_distinct low high (x ∷ xs) e =
    let c = rising_cons low high x xs e in
    (none_below x high xs (x - 1) c.2 (omega (arith, c.0)), rising_distinct x high xs c.2)

module _ (p : Matrix) (found : Shape) (q : Requests) (w : width p ≡ found.columns) (h : request_fault found q ≡ fine) where
  passes : (rising 0 (width p) q.agreed ≡ true) × (rising 0 (width p) q.absent ≡ true) × (pair_fault (width p) q.pairs ≡ fine)
  unfolding request_fault
  passes =
      let b = both _ _ h in
      let d = both _ _ b.1 in
      rw w (asked _ 14 b.0, asked _ 15 d.0, d.1)

  pub numbers : Numbers (width p) q.agreed × Numbers (width p) q.absent × Numbers (width p) q.pairs
  numbers = (
    λ k l. rising-at 0 (width p) q.agreed k passes.0 l,
    λ k l. rising-at 0 (width p) q.absent k passes.1 l,
    pair-numbers (width p) q.pairs passes.2,
  )

  pub listed : Askable p q
  listed = record {
    agreed = numbers-inside (width p) q.agreed numbers.0;
    absent = numbers-inside (width p) q.absent numbers.1;
    pairs = numbers-pairs (width p) q.pairs numbers.2;
    distinct = rising_distinct 0 (width p) q.agreed passes.0;
  }
