-- The two lists are filled one after the other.
use mathlib.Core.Path.{◌≡◌, ap, ◌∙◌}
use mir.Syntax.{w32, w64}
use mir.Val.{Fits}
use mir.Facts.{to_z_pos}
use Rattle.refusals.proofs.Laws.{front-sets}
use lib.ListN.{length, take, length-take}
use Prim.Native.Nat.{◌≤◌}
use native.Mathlib.Nat.{sub-zero}
use native.Mathlib.Omega.{arith}
use Rattle.reduce.proofs.Filled.{part_room}
use borrow.Author.Rules.{rules}
use Rattle.reduce.proofs.give.Goals as goal

pub slice_bounds-put_costs-end : goal.slice_bounds-put_costs-end
slice_bounds-put_costs-end c =
    let l : length c.args.done.node.cost ≡ 256 = search rules in
    omega (arith, l, c.requires.wide)

pub put_costs-requires : goal.put_costs-requires
put_costs-requires c = part_room _ _ _ _ c.requires

pub slice_bounds-put-end : goal.slice_bounds-put-end
slice_bounds-put-end c =
    let l : length c.args.done.used ≡ 64 = search rules in
    omega (arith, l, c.requires.few)

pub returns : goal.returns
returns c =
    let m : length (take c.args.done.count c.args.done.used) ≤ c.args.done.count = simp length-take (omega arith) in
    let b : Fits w32 c.args.done.node.bound = search rules in record { value = ap (λ z. record { bound = z; used = c.args.done.count }) (to_z_pos w64 (omega (arith, b.fits))); reduced_after = rw sub-zero at c.put_costs.ensures; order_after = rw sub-zero at c.put.ensures ∙ front-sets _ _ (omega (arith, m, c.requires.order)) }
