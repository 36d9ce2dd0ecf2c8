-- 01: floor plus reduced prices equals price. The identity of the rules at the root reduced, said of what the call gives: the bound in its
-- answer and the costs that it has put into the list.
use mathlib.Core.Path.{◌≡◌, refl, ap, sym, ◌∙◌}
use mathlib.Core.Bool.{Bool, true, false}
use mathlib.Core.List.{List, [], ◌∷◌, ◌++◌, map}
use Prim.Native.Nat.{ℕ, zero, suc, ◌≤◌, ◌<◌}
use native.Mathlib.Nat.{add-zero}
use native.Mathlib.Omega.{arith}
use lib.IntN.{ℤ, pos, ◌+ℤ◌}
use lib.ListN.{length, get_or, take, drop, length-map, get_or-map, get_or-append}
use lib.Seq.{length-take-le, get_or-take}
use Rattle.refusals.specs.Refusals.{outcome, fine, front, filled}
use Rattle.refusals.proofs.Laws.{both, accepts, fills}
use Rattle.node.specs.declared.Node.{Node}
use Rattle.node.specs.Lists.{upto, on, total, on_z, total_z}
use Rattle.node.specs.Matrix.{Matrix, width, IsPlan, price, signed_price}
use Rattle.node.specs.Node.{root, cost_at}
use Rattle.rules.specs.Reduce.{least_of, candidates, precedes, reduce_on, reduce_by}
use Rattle.rules.specs.Reduce as rules
use Rattle.node.proofs.Members.{length_from}
use Rattle.rules.proofs.Reducing.{used_next, reduce_identity}
use Rattle.dutyfile.specs.File.{columns_in, parse, instance, shape}
use Rattle.dutyfile.specs.Faults.{spp1_fault}
use Rattle.dutyfile.proofs.Facts.{Accepted, file-fine}
use Rattle.dutyfile.proofs.Columns.{file-width}
use Rattle.dutyfile.proofs.Marks.{spp1_added}
use Rattle.matrix.proofs.Accepted.{file-small}
use Rattle.matrix.proofs.Raised.{price-lowered}
use Rattle.reduce.specs.declared.Bound.{Bound}
use Rattle.refusals.specs.declared.Refusal.{Refusal}
use Rattle.std.specs.Prelude.{Result, Ok}
use Rattle.reduce.specs.Answer.{reduced_root, bound_of, reduced_costs, reduce_fault, reducing}

-- a node has 256 costs, reduced or not
module _ (p : Matrix) where
  lower_long : (s : Node) (i a : ℕ) → length (rules.lower p s i a).cost ≡ 256
  unfolding rules.lower
  lower_long s i a = length-map (upto 256) _ ∙ length_from 256 0

  long-by : (f : ℕ) (s : Node) (us : List ℕ) → length s.cost ≡ 256 → length (reduce_by precedes f p s us).node.cost ≡ 256
  unfolding reduce_by reduce_on
  long-by zero s us h = h
  long-by (suc f) s us h = go (candidates p s) (λ t vs l. long-by f t vs l)
    where
      go : (xs : List ℕ) → ((t : Node) (vs : List ℕ) → length t.cost ≡ 256 → length (reduce_by precedes f p t vs).node.cost ≡ 256)
          → length (reduce_on precedes xs p s us (λ t vs. reduce_by precedes f p t vs)).node.cost ≡ 256
      go [] q = h
      go (i ∷ is) q =
          let b : ℕ = used_next precedes p s i is in
          q (rules.lower p s b (least_of p s b)) (us ++ (b ∷ [])) (lower_long s b (least_of p s b))

  root-long : (cs : List ℕ) → length (rules.reduce p (root p cs)).node.cost ≡ 256
  unfolding rules.reduce_with root
  root-long cs = long-by (suc p.rows) (root p cs) [] (length-map (upto 256) _ ∙ length_from 256 0)

-- a sum of numbers that are not below 0
total-pos : (n : ℕ) (f : ℕ → ℕ) (g : ℕ → ℤ) → ((k : ℕ) → k < n → pos (f k) ≡ g k) → pos (total n f) ≡ total_z n g
unfolding total total_z
total-pos zero f g e = refl
total-pos (suc n) f g e = rw (← total-pos n f g (λ k l. e k (omega arith)), ← e n (omega arith))

on-pos : (b : Bool) (x : ℕ) → pos (on b x) ≡ on_z b (pos x)
on-pos true x = refl
on-pos false x = refl

module _ (file : List ℕ) (a : Accepted file) where
  abbrev p : Matrix
  p = (instance (parse file)).matrix

  abbrev costs : List ℕ
  costs = (instance (parse file)).costs

  -- the costs that the call puts into the list
  cost_at_lem : (old : List ℤ) (k : ℕ) → k < width p → get_or (front (reduced_costs file) old) k (pos 0) ≡ pos (cost_at (reduced_root file).node k)
  unfolding front reduced_costs reduced_root shape instance
  cost_at_lem old k l =
      let cost : List ℕ = (rules.reduce p (root p costs)).node.cost in
      let n : ℕ = columns_in file in
      let i : k < n = omega (arith, file-width file) in
      let w : n ≤ length cost = omega (arith, root-long p costs, file-width file, (file-small file a).fits.wide) in
      let new : List ℤ = map pos (take n cost) in
      let long : length new ≡ n = length-map (take n cost) pos ∙ length-take-le n cost w in
      get_or-append new (drop (length new) old) (pos 0) k (rw long i) ∙ get_or-map pos (take n cost) k 0 ∙ ap pos (get_or-take n cost k 0 i)

  -- the price in the file, which is of SPP1
  price-is : spp1_fault file ≡ fine → (X : ℕ → Bool) → IsPlan p X → pos (price p costs X) ≡ signed_price p (parse file).costs X
  unfolding instance parse
  price-is h X plan = ap pos (sym (add-zero (price p costs X))) ∙ rw (spp1_added file h) at (price-lowered file a X plan)

-- A call's answer and its list of costs, as its contract says them: every plan's price is the bound and the sum of its reduced costs.
pub prices : (file : List ℕ) (c o : ℕ) (r : Result Bound Refusal) (old reduced : List ℤ) → outcome r ≡ reducing file c o →
    reduced ≡ filled (outcome r) (reduced_costs file) old → (found : Bound) → r ≡ Ok found → (X : ℕ → Bool) →
    let p : Matrix = (instance (parse file)).matrix in
    IsPlan p X → signed_price p (parse file).costs X ≡ found.bound +ℤ total_z (width p) (λ k. on_z (X k) (get_or reduced k (pos 0)))
unfolding outcome reducing reduce_fault bound_of reduced_root
prices file c o r old reduced told list found e X plan =
    let m : Matrix = (instance (parse file)).matrix in
    let cs : List ℕ = (instance (parse file)).costs in
    let t : Node = (rules.reduce m (root m cs)).node in
    let u = accepts _ _ _ (sym (rw e at told)) in
    let v = both _ _ u.0 in
    let a : Accepted file = file-fine file (both _ _ v.1).0 in
    let b : found.bound ≡ pos t.bound = sym (ap (λ (x : Bound). x.bound) u.1) in
    let f : reduced ≡ front (reduced_costs file) old = list ∙ fills found (reduced_costs file) old (rw e) in
    let s : pos (total (width m) (λ k. on (X k) (cost_at t k))) ≡ total_z (width m) (λ k. on_z (X k) (get_or reduced k (pos 0))) =
    total-pos (width m) (λ k. on (X k) (cost_at t k)) (λ k. on_z (X k) (get_or reduced k (pos 0))) (λ k l. rw (f, cost_at_lem file a old k l) (on-pos (X k) (cost_at t k))) in
    sym (price-is file a v.0 X plan) ∙ ap pos (reduce_identity m (file-small file a).fits cs X plan) ∙ rw (b, ← s)
