-- `between`: channel by channel, each a byte.
use Prim.Native.Nat.{◌≤◌}
use native.Mathlib.Omega.{arith}
use Rattle.glass.specs.Private as Private
use Rattle.glass.proofs.Means.{of_means}
use Rattle.glass.proofs.general.between.Goals as goal
use Rattle.glass.proofs.general.between.Goals.{After-blend-b}

-- the three means are below 2 ^ 24
means : (c : After-blend-b) → (c.blend-r.result ≤ 16711680) × (c.blend-g.result ≤ 16711680) × (c.blend-b.result ≤ 16711680)
means c =
    let k = c.args.k in
    let t = c.args.t in (
      omega (arith, c.blend-r.ensures, of_means t k.left.r k.right.r (c.requires.2, c.requires.0.r, c.requires.1.r)),
      omega (arith, c.blend-g.ensures, of_means t k.left.g k.right.g (c.requires.2, c.requires.0.g, c.requires.1.g)),
      omega (arith, c.blend-b.ensures, of_means t k.left.b k.right.b (c.requires.2, c.requires.0.b, c.requires.1.b)),
    )

pub returns : goal.returns
unfolding Private.between
returns c = rw (c.blend-b.ensures, c.blend-g.ensures, c.blend-r.ensures)

pub overflow_mul-result : goal.overflow_mul-result
overflow_mul-result c = omega (arith, means (c))

pub overflow_mul-result-2 : goal.overflow_mul-result-2
overflow_mul-result-2 c = omega (arith, means (c))

pub overflow_add-result : goal.overflow_add-result
overflow_add-result c = omega (arith, means (c))

pub overflow_add-result-2 : goal.overflow_add-result-2
overflow_add-result-2 c = omega (arith, means (c))
