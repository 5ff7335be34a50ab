-- `moved`: 32 bits hold what is on the way.
use Rattle.std.proofs.Common.{◌<◌, mul-le-mul_right, arith}
use Rattle.boxblur.proofs.moved.Goals as goal

pub overflow_mul-result : goal.overflow_mul-result
overflow_mul-result c =
    let a : c.from.result < 256 = omega arith in
    omega (arith, mul-le-mul_right c.args.inv a, c.requires.0)

pub overflow_add-result : goal.overflow_add-result
overflow_add-result c =
    let a : c.from.result < 256 = omega arith in
    omega (arith, mul-le-mul_right c.args.inv a, c.requires)

pub overflow_mul-result-2 : goal.overflow_mul-result-2
overflow_mul-result-2 c =
    let b : c.from-2.result < 256 = omega arith in
    omega (arith, mul-le-mul_right c.args.inv b, c.requires.0)

pub overflow_sub-result : goal.overflow_sub-result
overflow_sub-result c = rw c.from-2.ensures (omega (arith, c.requires.1.1))

pub returns : goal.returns
returns c = rw (c.from.ensures, c.from-2.ensures)
