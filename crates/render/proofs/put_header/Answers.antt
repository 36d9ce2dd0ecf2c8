-- Three runs one after the other.
use mathlib.Core.Path.{refl}
use Rattle.endian.specs.Bytes.{bytes16}
use Rattle.dutyfile.specs.File.{magic, header}
use Rattle.render.proofs.Puts.{three-runs}
use Rattle.render.proofs.put_header.Goals as goal

pub returns : goal.returns
unfolding header
returns c =
    let a = c.args in
    three-runs 0 4 6 (magic a.edition) (bytes16 a.rows) (bytes16 a.columns) a.out.now c.put.new.dst c.put16.new.dst _
    (rw c.digit.ensures at c.put.ensures) c.put16.ensures c.put16-2.ensures refl refl
