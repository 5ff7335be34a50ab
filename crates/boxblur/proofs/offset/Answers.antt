use mathlib.Core.Path.{refl}
use native.Mathlib.Nat.{mul-le-mul_right}
use native.Mathlib.Omega.{arith}
use Rattle.boxblur.proofs.offset.Goals as goal

-- src/lib.rt:78:6
pub overflow_mul-result : goal.overflow_mul-result
overflow_mul-result c = omega (arith, mul-le-mul_right c.args.w c.requires.1.1)

-- src/lib.rt:78:6
pub overflow_add-result : goal.overflow_add-result
overflow_add-result c = omega (arith, mul-le-mul_right c.args.w c.requires.1.1)

-- src/lib.rt:78:5
pub overflow_mul-result-2 : goal.overflow_mul-result-2
overflow_mul-result-2 c = omega (arith, mul-le-mul_right c.args.w c.requires.1.1)

-- src/lib.rt:74:1
pub returns : goal.returns
returns c = (refl, omega (arith, mul-le-mul_right c.args.w c.requires.1.1))
