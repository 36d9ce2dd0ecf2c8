-- The entries that are left, written from their place on, give what all of them give.
use lib.ListN.{length}
use lib.Seq.{sets}
use Rattle.std.specs.Iterator.Adapters.{enumerate_source, enumerate_count, zip_first, zip_second}
use Rattle.std.specs.Slice.Iter.{iter_rest}
use Rattle.dutyfile.specs.File.{bodies_at, contents}
use Rattle.render.proofs.Puts.{Putting}
use Rattle.render.proofs.put_contents.Given as goal

abbrev pub invariant-loop-k : goal.invariant-loop-k
invariant-loop-k l =
    Putting (sets l.initial.out 8 (contents (bodies_at (length l.costs)) l.costs l.lengths)) l.out l.start (enumerate_count l.k-iterator)
    (iter_rest (zip_first (enumerate_source l.k-iterator))) (iter_rest (zip_second (enumerate_source l.k-iterator)))
