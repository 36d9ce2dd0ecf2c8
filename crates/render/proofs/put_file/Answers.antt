-- The header, the contents and the row numbers, one after the other, are the file.
use mathlib.Core.Path.{◌≡◌}
use native.Mathlib.Omega.{arith}
use Prim.Native.Nat.{◌+◌, ◌≤◌}
use lib.ListN.{length}
use Rattle.refusals.specs.Refusals.{fine}
use Rattle.dutyfile.specs.File.{Lists, bodies_at, render}
use Rattle.dutyfile.specs.Faults.{lists_fault}
use Rattle.dutyfile.proofs.Round.{lists-fine}
use Rattle.render.proofs.Whole.{file-room, file-small, file-written}
use Rattle.render.proofs.put_file.Goals as goal

module _ (d : Lists) (fault : lists_fault d ≡ fine) where
  few : length d.costs ≤ 256
  few = (lists-fine d fault).counts.columns.most

  room : length (render d) ≡ bodies_at (length d.costs) + length d.numbers
  room = file-room d (lists-fine d fault)

pub overflow_cast-columns : goal.overflow_cast-columns
overflow_cast-columns c = omega (arith, few _ c.requires.lists_pass)

pub put_header-requires : goal.put_header-requires
put_header-requires c = omega (arith, room _ c.requires.lists_pass, c.requires.file_fits)

pub put_contents-requires : goal.put_contents-requires
put_contents-requires c =
    let v = c.requires.lists_pass in
    let p = lists-fine _ v in
    record { costs_len_bound = (few _ v, p.same); lengths_bound = file-small _ p; costs_in_bounds = omega (arith, room _ v, c.requires.file_fits) }

pub overflow_add-columns : goal.overflow_add-columns
overflow_add-columns c = omega (arith, few _ c.requires.lists_pass)

pub put-requires : goal.put-requires
put-requires c = omega (arith, room _ c.requires.lists_pass, c.requires.file_fits)

pub returns : goal.returns
returns c = file-written _ (lists-fine _ c.requires.lists_pass) _ _ _ _ c.requires.file_fits c.put_header.ensures c.put_contents.ensures c.put.ensures
