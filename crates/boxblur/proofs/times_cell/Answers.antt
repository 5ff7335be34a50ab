-- A byte times k.
use Rattle.std.proofs.Common.{◌<◌, ◌+◌, mul-le-mul_right, arith}
use Rattle.boxblur.proofs.times_cell.Goals as goal

pub overflow_mul-result : goal.overflow_mul-result
overflow_mul-result c =
    let a : c.from.result < 256 = omega (arith, c.type_inv.src c.args.o) in
    omega (arith, mul-le-mul_right c.args.k a, c.requires.1)

pub overflow_mul-result-2 : goal.overflow_mul-result-2
overflow_mul-result-2 c =
    let a : c.from-2.result < 256 = omega (arith, c.type_inv.src (c.args.o + 1)) in
    omega (arith, mul-le-mul_right c.args.k a, c.requires.1)

pub overflow_mul-result-3 : goal.overflow_mul-result-3
overflow_mul-result-3 c =
    let a : c.from-3.result < 256 = omega (arith, c.type_inv.src (c.args.o + 2)) in
    omega (arith, mul-le-mul_right c.args.k a, c.requires.1)

pub returns : goal.returns
returns c = cc
