-- `channel`: a mean of two bytes, rounded down to a level or not.
use Prim.Native.Nat.{◌+◌, ◌*◌, ◌≤◌}
use native.Mathlib.Omega.{arith}
use Rattle.glass.proofs.Means.{of_bytes}
use Rattle.glass.proofs.upsample.channel.Goals as goal
use Rattle.glass.proofs.upsample.channel.Goals.{After-from, After-from-2}

first : (c : After-from) → c.from.result * c.args.u ≤ 65280
first c = rw c.requires.1 (omega (arith, of_bytes c.args.v c.from.result 0 c.requires.0 (omega arith) (omega arith)))

both : (c : After-from-2) → let a = c.args in c.from.result * a.u + c.from-2.result * a.v ≤ 65280
both c = rw c.requires.1 (of_bytes c.args.v c.from.result c.from-2.result c.requires.0 (omega arith) (omega arith))

pub returns-then-flat : goal.returns-then-flat
returns-then-flat c = rw (c.if-flat.true, c.requires.1, c.from.ensures, c.from-2.ensures)

pub returns-else-flat : goal.returns-else-flat
returns-else-flat c = rw (c.if-flat.false, c.requires.1, c.from.ensures, c.from-2.ensures)

pub overflow_mul-n : goal.overflow_mul-n
overflow_mul-n c = record { fits = omega (arith, first c) }

pub overflow_mul-n-2 : goal.overflow_mul-n-2
overflow_mul-n-2 c = record { fits = omega (arith, both c) }

pub overflow_add-n : goal.overflow_add-n
overflow_add-n c = record { fits = omega (arith, both c) }

pub overflow_mul-result : goal.overflow_mul-result
overflow_mul-result c = omega (arith, both (goal.at.overflow_mul-result c).After-from-2)
