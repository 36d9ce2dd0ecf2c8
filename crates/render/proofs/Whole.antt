-- The header, the contents and the row numbers, written one after the other.
use mathlib.Core.Path.{◌≡◌, refl, ◌∙◌}
use mathlib.Core.List.{List}
use Prim.Native.Nat.{ℕ, ◌+◌, ◌≤◌}
use native.Mathlib.Omega.{arith}
use lib.ListN.{length}
use lib.Seq.{sets}
use Rattle.refusals.specs.Refusals.{front}
use Rattle.refusals.proofs.Laws.{front-sets}
use Rattle.dutyfile.specs.File.{Lists, bodies_at, header, contents, render, sum}
use Rattle.dutyfile.proofs.Facts.{columns-small}
use Rattle.dutyfile.proofs.Round.{Passing, length-render, length-contents}
use Rattle.render.proofs.Puts.{three-runs}

module _ (d : Lists) (p : Passing d) where
  pub file-room : length (render d) ≡ bodies_at (length d.costs) + length d.numbers
  file-room = length-render d p.same

  pub file-small : sum d.lengths ≤ 4096
  file-small = omega (arith, columns-small d.edition d.rows 0 d.costs d.lengths p.same (omega arith) p.columns)

  pub file-written : (out x y z : List ℕ) → length (render d) ≤ length out →
      x ≡ sets out 0 (header d.edition d.rows (length d.costs)) → y ≡ sets x 8 (contents (bodies_at (length d.costs)) d.costs d.lengths) →
      z ≡ sets y (bodies_at (length d.costs)) d.numbers → z ≡ front (render d) out
  unfolding render header
  file-written out x y z h e f g =
      let n : ℕ = length d.costs in
      let q : bodies_at n ≡ 8 + length (contents (bodies_at n) d.costs d.lengths) = omega (arith, length-contents (bodies_at n) d.costs d.lengths p.same) in
      three-runs 0 8 (bodies_at n) (header d.edition d.rows n) (contents (bodies_at n) d.costs d.lengths) d.numbers out x y z e f g refl q
      ∙ front-sets (render d) out h
