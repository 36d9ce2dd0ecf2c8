-- The runs of bytes that are written one after the other, and the contents entry by entry.
use mathlib.Core.Path.{◌≡◌, refl, ap, sym, ◌∙◌}
use mathlib.Core.List.{List, [], ◌∷◌, ◌++◌}
use Prim.Native.Nat.{ℕ, ◌+◌, ◌≤◌}
use native.Mathlib.Omega.{arith}
use lib.IntN.{ℤ}
use native.Mathlib.Nat.{add_assoc}
use lib.ListN.{length, length-append}
use lib.Seq.{sets, length-sets}
use Rattle.endian.proofs.Parts.{sets_append}
use Rattle.dutyfile.specs.File.{bodies_at, entry_bytes, contents, sum}

-- an entry, and the header, are written in three runs, one after the other
pub three-runs : (at p q : ℕ) (a b c : List ℕ) (out x y z : List ℕ) → x ≡ sets out at a → y ≡ sets x p b → z ≡ sets y q c →
    p ≡ at + length a → q ≡ at + length a + length b → z ≡ sets out at (a ++ b ++ c)
three-runs at p q a b c out x y z e f g h i = rw (g, f, e, i, h, sets_append, sets_append, length-append, add_assoc)

-- at entry k, whose body starts at a place: the costs and the lengths that are left, written from here on, give the whole
pub record Putting (whole out : List ℕ) (start k : ℕ) (costs : List ℤ) (lengths : List ℕ) : Type 0 where
  pub few : k + length costs ≤ 256
  pub same : length lengths ≡ length costs
  pub room : bodies_at (k + length costs) ≤ length out
  pub ends : start + sum lengths ≤ 6152
  pub left : sets out (bodies_at k) (contents start costs lengths) ≡ whole

pub putting_start : (old : List ℕ) (costs : List ℤ) (lengths : List ℕ) → length costs ≤ 256 → length lengths ≡ length costs → sum lengths ≤ 4096 →
    bodies_at (length costs) ≤ length old → (k : ℕ) (cs : List ℤ) (ls : List ℕ) → k ≡ 0 → cs ≡ costs → ls ≡ lengths →
    Putting (sets old 8 (contents (bodies_at (length costs)) costs lengths)) old (bodies_at (length costs)) k cs ls
putting_start old costs lengths f e h r k cs ls a b d =
    rw (a, b, d) (record { few = omega arith; same = e; room = omega arith; ends = omega arith; left = refl })

module _ {whole out : List ℕ} {start k : ℕ} {costs : List ℤ} {lengths : List ℕ} (w : Putting whole out start k costs lengths) where
  module _ {c : ℤ} {l : ℕ} {cs : List ℤ} {ls : List ℕ} (e : costs ≡ c ∷ cs) (f : lengths ≡ l ∷ ls) where
    pub putting_ends : start + l + sum ls ≤ 6152
    unfolding sum
    putting_ends = omega (arith, rw f at w.ends)

    pub putting_next : (next : List ℕ) → next ≡ sets out (bodies_at k) (entry_bytes c start l) → Putting whole next (start + l) (k + 1) cs ls
    unfolding contents
    putting_next next g =
        let entry : List ℕ = entry_bytes c start l in
        let rest : List ℕ = contents (start + l) cs ls in
        let n : length next ≡ length out = rw g (length-sets out (bodies_at k) entry) in
        let at : bodies_at k + 8 ≡ bodies_at (k + 1) = omega arith in
        record {
          few = omega (arith, w.few, ap length e);
          same = omega (arith, w.same, ap length e, ap length f);
          room = omega (arith, w.room, n, ap length e);
          ends = putting_ends;
          left = rw (g, ← at) (sym (sets_append out (bodies_at k) entry rest) ∙ (rw (e, f) at w.left));
        }

  pub putting_end : costs ≡ [] → out ≡ whole
  unfolding contents
  putting_end e = rw e at w.left
