-- The lists of a trial pass the writer's tests, so its file passes the reader's tests and holds them.
use mathlib.Core.Path.{◌≡◌, refl, ◌∙◌}
use mathlib.Core.Bool.{true}
use mathlib.Core.List.{List, [], ◌∷◌, ◌++◌, map}
use Prim.Native.Nat.{ℕ, zero, suc, ◌+◌, ◌-◌, ◌≤◌}
use native.Mathlib.Nat.{zero-add, add-zero}
use native.Mathlib.Omega.{arith}
use lib.IntN.{ℤ, pos}
use lib.ListN.{length, drop, replicate, length-append, length-drop, length-replicate}
use lib.Seq.{take-append-le, drop-append-le}
use borrow.Author.Tests.{le-leb, lt-ltb}
use Rattle.refusals.specs.Refusals.{fine, ask, ◌then◌}
use Rattle.refusals.proofs.Laws.{both}
use Rattle.node.specs.Lists.{from}
use Rattle.node.proofs.Members.{length_from}
use Rattle.dutyfile.specs.declared.Edition.{Edition}
use Rattle.dutyfile.specs.declared.Edition.TheVariants.{Spp1, Spp2}
use Rattle.dutyfile.specs.File.{Lists, sum, bodies}
use Rattle.dutyfile.specs.Faults.{rising, is_cost, column_fault, columns_fault, bodies_fault}
use Rattle.dutyfile.proofs.Facts.{all_pass}
use Rattle.dutyfile.proofs.Round.{Passing}
use Rattle.trials.specs.Trials.{extended}

columns_append : (ed : Edition) (m t : ℕ) (cs : List ℤ) (ls : List ℕ) (ds : List ℤ) (ks : List ℕ) → length ls ≡ length cs
    → columns_fault ed m t cs ls ≡ fine → columns_fault ed m (t + sum ls) ds ks ≡ fine → columns_fault ed m t (cs ++ ds) (ls ++ ks) ≡ fine
unfolding columns_fault sum
columns_append ed m t [] [] ds ks e p q = rw (add-zero t) at q
columns_append ed m t [] (l ∷ ls) ds ks e p q = absurd (omega arith)
columns_append ed m t (c ∷ cs) [] ds ks e p q = absurd (omega arith)
columns_append ed m t (c ∷ cs) (l ∷ ls) ds ks e p q =
    let b = both _ _ p in
    let s : t + (l + sum ls) ≡ t + l + sum ls = omega arith in
    all_pass b.0 (columns_append ed m (t + l) cs ls ds ks (omega arith) b.1 (rw s at q))

-- columns of one row each
one-cost : (ed : Edition) → is_cost ed (pos 1) ≡ true
one-cost Spp1 = refl
one-cost Spp2 = refl

ones-fine : (ed : Edition) (m t e : ℕ) → 1 ≤ m → t + e ≤ 4096 → columns_fault ed m t (replicate e (pos 1)) (replicate e 1) ≡ fine
unfolding columns_fault column_fault ask ◌then◌
ones-fine ed m t zero l h = refl
ones-fine ed m t (suc e) l h = simp (one-cost ed, le-leb 1 m l, le-leb (t + 1) 4096 (omega arith), ones-fine ed m (t + 1) e l (omega arith))

bodies_append : (ls ns ks rs : List ℕ) → length ns ≡ sum ls → bodies (ls ++ ks) (ns ++ rs) ≡ bodies ls ns ++ bodies ks rs
unfolding bodies sum
bodies_append [] [] ks rs e = refl
bodies_append [] (n ∷ ns) ks rs e = absurd (omega arith)
bodies_append (l ∷ ls) ns ks rs e =
    rw (
      take-append-le l ns rs (omega arith),
      drop-append-le l ns rs (omega arith),
      bodies_append ls (drop l ns) ks rs (simp length-drop (omega arith)),
    )

-- bodies of one row each, from row number r on
abbrev pub singles : ℕ → ℕ → List (List ℕ)
singles e r = map (λ x. x ∷ []) (from e r)

bodies-ones : (e r : ℕ) → bodies (replicate e 1) (from e r) ≡ singles e r
unfolding bodies from
bodies-ones zero r = refl
bodies-ones (suc e) r = rw (bodies-ones e (suc r))

bodies_both : (m : ℕ) (bs cs : List (List ℕ)) → bodies_fault m bs ≡ fine → bodies_fault m cs ≡ fine → bodies_fault m (bs ++ cs) ≡ fine
unfolding bodies_fault
bodies_both m [] cs p q = q
bodies_both m (b ∷ bs) cs p q = let s = both _ _ p in all_pass s.0 (bodies_both m bs cs s.1 q)

singles_rise : (m e r : ℕ) → 1 ≤ r → r + e ≤ suc m → bodies_fault m (singles e r) ≡ fine
unfolding bodies_fault rising from ask ◌then◌
singles_rise m zero r l h = refl
singles_rise m (suc e) r l h = simp (lt-ltb 0 r l, le-leb r m (omega arith), singles_rise m e (suc r) (omega arith) (omega arith))

sum_append : (ls ks : List ℕ) → sum (ls ++ ks) ≡ sum ls + sum ks
unfolding sum
sum_append [] ks = omega arith
sum_append (l ∷ ls) ks = omega (arith, sum_append ls ks)

sum_ones : (e : ℕ) → sum (replicate e 1) ≡ e
unfolding sum
sum_ones zero = refl
sum_ones (suc e) = omega (arith, sum_ones e)

-- lists with room for the columns of every trial
pub record Extendable (d : Lists) : Type 0 where
  pub passes : Passing d
  pub few : length d.costs ≤ 192
  pub full : sum d.lengths + (d.rows - 1) ≤ 4096

-- a trial of them
module _ (d : Lists) (x : Extendable d) (k : ℕ) (one : 1 ≤ k) (low : k ≤ d.rows) where
  pub bodies-extended : bodies (extended k d).lengths (extended k d).numbers ≡ bodies d.lengths d.numbers ++ singles (d.rows - k) (suc k)
  unfolding extended
  bodies-extended = bodies_append d.lengths d.numbers _ _ x.passes.whole ∙ rw (bodies-ones (d.rows - k) (suc k))

  pub sum-extended : sum (extended k d).lengths ≡ sum d.lengths + (d.rows - k)
  unfolding extended
  sum-extended = sum_append d.lengths _ ∙ rw (sum_ones (d.rows - k))

  pub length-extended : length (extended k d).costs ≡ length d.costs + (d.rows - k)
  unfolding extended
  length-extended = simp (length-append, length-replicate)

  pub extended_passing : Passing (extended k d)
  unfolding extended
  extended_passing =
      let p = x.passes in
      let r : 1 ≤ d.rows = omega (arith, one, low) in
      record {
        counts = record {
          rows = p.counts.rows;
          columns = record {
            least = omega (arith, length-extended, p.counts.columns.least);
            most = omega (arith, length-extended, x.few, p.counts.rows.most, one);
          };
        };
        same = simp (length-append, length-replicate, p.same);
        columns =
            columns_append d.edition d.rows 0 d.costs d.lengths _ _ p.same p.columns
            (rw (zero-add (sum d.lengths)) (ones-fine d.edition d.rows (sum d.lengths) (d.rows - k) r (omega (arith, x.full, one))));
        whole = simp (length-append, length_from) (omega (arith, p.whole, sum-extended));
        bodies =
            rw bodies-extended
            (bodies_both d.rows _ _ p.bodies (singles_rise d.rows (d.rows - k) (suc k) (omega arith) (omega (arith, low))));
      }
