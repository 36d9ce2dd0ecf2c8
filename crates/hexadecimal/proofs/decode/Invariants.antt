-- At each byte those that are left, put after those that are there, give the whole.
use Prim.Native.Nat.{◌+◌, ◌*◌}
use Rattle.hexadecimal.proofs.Laws.{Decoding}
use Rattle.hexadecimal.proofs.decode.Given as goal

abbrev pub invariant-loop-k : goal.invariant-loop-k
invariant-loop-k l = Decoding l.text l.initial.file l.file l.k (2 * l.k + 2)
