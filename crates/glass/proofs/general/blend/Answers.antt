-- `blend`: a mean of means stays within 32 bits.
use native.Mathlib.Omega.{arith}
use Rattle.glass.proofs.Means.{of_means}
use Rattle.glass.proofs.general.blend.Goals as goal

pub overflow_mul-result : goal.overflow_mul-result
overflow_mul-result c = omega (arith, of_means c.args.t c.args.a c.args.b c.requires)

pub overflow_mul-result-2 : goal.overflow_mul-result-2
overflow_mul-result-2 c = omega (arith, of_means c.args.t c.args.a c.args.b c.requires)

pub overflow_add-result : goal.overflow_add-result
overflow_add-result c = omega (arith, of_means c.args.t c.args.a c.args.b c.requires)
