-- `offset` meets its contract: a channel times an alpha has 16 bits.
use Prim.Native.Nat.{◌*◌, ◌≤◌}
use native.Mathlib.Nat.{mul-le-mul_right}
use native.Mathlib.Omega.{arith}
use mathlib.Core.Path.{refl}
use Rattle.canvas.proofs.offset.Goals as goal
use Rattle.canvas.proofs.offset.Goals.{Start}

bound : (c : Start) → c.args.c * c.args.a ≤ 255 * c.args.a
bound c = mul-le-mul_right c.args.a (omega arith)

pub returns : goal.returns
returns c = (refl, omega (arith, bound c))

pub overflow_mul-k : goal.overflow_mul-k
overflow_mul-k c = omega (arith, bound c)

pub overflow_add-k : goal.overflow_add-k
overflow_add-k c = omega (arith, bound c)

pub overflow_mul-result : goal.overflow_mul-result
overflow_mul-result c = omega (arith, bound c)

pub overflow_add-result : goal.overflow_add-result
overflow_add-result c = omega (arith, bound c)

pub overflow_add-result-2 : goal.overflow_add-result-2
overflow_add-result-2 c = omega (arith, bound c)
