use native.Mathlib.Omega.{arith}
use Rattle.std.proofs.lemmas.Nat.{one_shl}
use Rattle.vessel_sets.proofs.Filling.{filling_start, filling_count, filling_row, filling_crew, filling_done, filling_end}
use Rattle.vessel_sets.proofs.fill.Goals as goal
use Rattle.vessel_sets.proofs.fill.Goals.{then-crew-crews, else-crew-crews}

pub loop-s-init : goal.loop-s-init
loop-s-init c = let p = c.requires in filling_start _ _ _ _ _ p.0 p.1 p.2 (one_shl _ 64 (omega (arith, p.0.few)))

pub pick-requires : goal.pick-requires
pick-requires c =
    let i = c.loop-s.invariant in
    let h = c.loop-s-test.true in
    filling_row _ _ _ _ _ i h _ (filling_count _ _ _ _ _ i h) c.if-crew-crews.true

pub loop-s-preserved : goal.loop-s-preserved
loop-s-preserved c =
    let i = c.loop-s.invariant in
    let h = c.loop-s-test.true in
    let e = filling_count _ _ _ _ _ i h in
    elim c.if-crew-crews.branch [
      | then-crew-crews w ↦ rw w.least-is (filling_crew _ _ _ _ _ i h _ e w.if-crew-crews.true _ w.pick.ensures)
      | else-crew-crews w ↦ rw w.least-is (filling_done _ _ _ _ _ i h _ e w.if-crew-crews.false)
    ]

pub returns : goal.returns
returns c = filling_end _ _ _ _ _ c.loop-s.invariant c.loop-s-test.false
