-- The loop that fills the table: what is left to write from a column on.
use Rattle.std.proofs.Common.{◌≡◌, ℕ, ◌+◌, ◌<◌, ◌≤◌, List, length, get_or, drop, set, replicate, ℤ, pos, sym, ◌∙◌, zero-add, arith, length-set, to_z-of_z, w32, to_z, of_z}
use lib.ListN.{length-replicate}
use lib.Seq.{sets}
use Rattle.endian.proofs.Laws.{sets-step, sets_end}
use Rattle.refusals.specs.Refusals.{front}
use Rattle.refusals.proofs.Laws.{front-sets}
use Rattle.dutyfile.specs.declared.Edition.{Edition}
use Rattle.dutyfile.specs.File.{raised, raised_all}
use Rattle.dutyfile.proofs.Costs.{cost-fits, raised_long, raised_at}
use Rattle.raising.specs.Priced.{AllPriced}

module _ (ed : Edition) (cs : List ℤ) (ls : List ℕ) where
  abbrev all : List ℕ
  all = raised_all ed cs ls

  -- at column j
  pub record Filling (t : List ℕ) (j : ℕ) : Type 0 where
    pub priced : AllPriced ed cs ls
    pub within : j ≤ length cs
    pub long : length t ≡ 256
    pub left : sets t j (drop j all) ≡ front all (replicate 256 0)

  pub filling_start : AllPriced ed cs ls → Filling (replicate 256 0) 0
  filling_start p = record {
    priced = p;
    within = omega arith;
    long = length-replicate {A = ℕ} 256 0;
    left = front-sets all (replicate 256 0) (omega (arith, raised_long ed cs ls p.same, p.wide, length-replicate {A = ℕ} 256 0));
  }

  module _ (t : List ℕ) (j : ℕ) (w : Filling t j) where
    -- a cost as it is read from the list
    read : j < length cs → to_z w32 (of_z w32 (get_or cs j (pos 0))) ≡ get_or cs j (pos 0)
    read h = to_z-of_z (cost-fits ed _ (w.priced.each j h).cost)

    pub filling_next : j < length cs → (c : ℕ) → c ≡ raised ed (to_z w32 (of_z w32 (get_or cs j (pos 0)))) (get_or ls j 0) → Filling (set t j c) (j + 1)
    filling_next h c e =
        let is : c ≡ get_or all j 0 = rw (read h) at e ∙ sym (raised_at ed cs ls j h w.priced.same) in
        let inside : j < length all = omega (arith, raised_long ed cs ls w.priced.same) in
        record {
          priced = w.priced;
          within = omega arith;
          long = length-set t j c ∙ w.long;
          left = rw is (sym (rw (zero-add j, zero-add (j + 1)) at (sets-step t all 0 j inside)) ∙ w.left);
        }

    pub filling_end : length cs ≤ j → t ≡ front all (replicate 256 0)
    filling_end h = sym (sets_end t all j j (omega (arith, raised_long ed cs ls w.priced.same))) ∙ w.left
