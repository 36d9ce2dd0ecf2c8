-- The library gives the digits.
use Prim.Native.Nat.{◌≤◌}
use native.Mathlib.Omega.{arith}
use Rattle.line.proofs.Numerals.{few_digits}
use Rattle.line.proofs.Puts.{put_digits}
use Rattle.line.proofs.put_digits.Goals as goal

pub put-requires : goal.put-requires
put-requires c =
    omega (arith, few_digits c.decimal-k.result c.args.n c.decimal-k.ensures.len (omega arith), c.decimal-k.ensures.in_bounds.1)

pub overflow_add-result : goal.overflow_add-result
overflow_add-result c =
    omega (arith, few_digits c.decimal-k.result c.args.n c.decimal-k.ensures.len (omega arith))

pub returns-clause-put : goal.returns-clause-put
returns-clause-put c =
    let few : c.decimal-k.result ≤ 20 = few_digits c.decimal-k.result c.args.n c.decimal-k.ensures.len (omega arith) in
    let a = c.args in
    put_digits a.out.now _ _ a.at a.n c.decimal-k.result few c.decimal-k.ensures.len c.decimal-k.ensures.digits c.put.ensures

pub returns-clause-upper_bound : goal.returns-clause-upper_bound
returns-clause-upper_bound c = omega (arith, few_digits c.decimal-k.result c.args.n c.decimal-k.ensures.len (omega arith))
