-- The list that is built of an accepted file's lists keeps the file's matrix, and the root of that is the file's root.
use mathlib.Core.Path.{◌≡◌, refl, sym, ◌∙◌}
use mathlib.Core.List.{List}
use Prim.Native.Nat.{ℕ, ◌-◌, ◌≤◌}
use native.Mathlib.Nat.{sub-zero}
use native.Mathlib.Omega.{arith}
use lib.IntN.{ℤ}
use lib.ListN.{length, get_or, take, replicate, length-map}
use Rattle.refusals.specs.Refusals.{front}
use Rattle.node.specs.Lists.{upto, table}
use Rattle.node.specs.Matrix.{Matrix}
use Rattle.node.specs.Node.{root}
use Rattle.node.specs.Stored.{matrix_in}
use Rattle.node.proofs.Members.{at_table, length_from}
use Rattle.node.proofs.Loops.{table_ext, zeros-after}
use Rattle.rules.proofs.Costs.{cost_limit, root_fair}
use Rattle.dutyfile.specs.declared.Shape.{Shape}
use Rattle.dutyfile.specs.File.{parse, raised_all, instance}
use Rattle.raising.specs.Priced.{AllPriced}
use Rattle.refusals.specs.declared.Refusal.{Refusal}
use Rattle.std.specs.Prelude.{Result, Ok, Err}
use Rattle.matrix.specs.Stated.{stated, Statable, Holds}
use Rattle.lists.specs.Loaded.{Loaded}
use Rattle.lists.proofs.Read.{Listed}

-- an answer that is refused is not accepted
pub refuses_only : {P : Type 0} {r : Result Shape Refusal} {why : Refusal} {found : Shape} → r ≡ Err why → r ≡ Ok found → P
refuses_only e q = absurd (let z : ◌≡◌ {A = ℕ} 0 1 = cc in omega arith)

-- a root has a table of the costs
cost-table : (cs : List ℕ) → table 256 (λ j. get_or (table 256 (λ k. get_or cs k 0)) j 0) ≡ table 256 (λ j. get_or cs j 0)
cost-table cs =
    let f : ℕ → ℕ = λ j. get_or cs j 0 in
    sym (table_ext 256 (λ j. get_or (table 256 f) j 0) (table 256 f) (length-map (upto 256) f ∙ length_from 256 0) (λ k l. refl))

root-table : (p : Matrix) (cs : List ℕ) → root p (table 256 (λ j. get_or cs j 0)) ≡ root p cs
unfolding root
root-table p cs = simp (cost-table cs)

-- a list at the front of zeros
front-table : (new : List ℕ) → length new ≤ 256 → front new (replicate 256 0) ≡ table 256 (λ j. get_or new j 0)
unfolding front
front-table new h = zeros-after new 256 h

module _ (file : List ℕ) (found : Shape) (prices : List ℤ) (lengths numbers : List ℕ) (t : Listed file found prices lengths numbers) where
  -- the costs, as a table
  raised-table : (costs : List ℕ) → costs ≡ front (instance (parse file)).costs (replicate 256 0)
      → costs ≡ table 256 (λ j. get_or (instance (parse file)).costs j 0)
  raised-table costs e = e ∙ front-table (instance (parse file)).costs (omega (arith, t.long, t.columns))

  -- the parts of the lists that are handed on
  pub parts_statable : Statable found.rows (take (found.columns - 0) lengths) (take (found.entries - 0) numbers)
  parts_statable = rw (sub-zero, sub-zero) t.statable

  pub parts-priced : AllPriced found.edition (take (found.columns - 0) prices) (take (found.columns - 0) lengths)
  parts-priced = rw sub-zero t.priced

  -- the costs that are filled
  pub parts-raised : (costs : List ℕ)
      → costs ≡ front (raised_all found.edition (take (found.columns - 0) prices) (take (found.columns - 0) lengths)) (replicate 256 0)
      → costs ≡ front (instance (parse file)).costs (replicate 256 0)
  parts-raised costs e = rw (sub-zero, t.raised_is) at e

  loaded : (l costs : List ℕ) → length l ≡ 8516 → costs ≡ front (instance (parse file)).costs (replicate 256 0) →
      Holds l (stated found.rows (take (found.columns - 0) lengths) (take (found.entries - 0) numbers)) → Loaded file found l costs
  loaded l costs long raised o =
      let h : Holds l (stated found.rows (take found.columns lengths) (take found.entries numbers)) = rw (sub-zero, sub-zero) at o in
      let is : matrix_in l ≡ (instance (parse file)).matrix = h.is ∙ t.matrix_is in
      let F = h.kept.small.fits in
      let costs-is = raised-table costs raised in
      record {
        passes = t.passes;
        shape_is = t.shape_is;
        long = long;
        costs_long = rw costs-is (length-map (upto 256) _ ∙ length_from 256 0);
        kept = h.kept;
        is = is;
        rows_is = rw h.is;
        columns_is = rw is t.wide;
        root_is = rw (is, costs-is) (root-table (instance (parse file)).matrix (instance (parse file)).costs);
        workable = record {
          kept = h.kept;
          fair = root_fair (matrix_in l) costs F cost_limit (λ k h. rw (costs-is, at_table 256 _ k (omega (arith, F.wide))) (t.cheap k (rw is at h)));
        };
      }

  pub loaded_as : (l costs : List ℕ) → length l ≡ 8516 → costs ≡ front (instance (parse file)).costs (replicate 256 0) →
      Holds l (stated found.rows (take (found.columns - 0) lengths) (take (found.entries - 0) numbers)) →
      (told : Shape) → ◌≡◌ {A = Result Shape Refusal} (Ok found) (Ok told) → Loaded file told l costs
  loaded_as l costs long raised o told e = let q : found ≡ told = cc in rw (← q) (loaded l costs long raised o)
