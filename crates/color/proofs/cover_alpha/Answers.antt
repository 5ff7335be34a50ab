-- `color::cover_alpha` meets its contract: the product of two bytes fits.
use Rattle.std.proofs.Common.{◌*◌, ◌≤◌, mul-le-mul_right, arith, le-leb}
use borrow.Author.Tests.{lt-leb}
use Rattle.color.specs.Color.{cover_alpha}
use Rattle.color.proofs.cover_alpha.Goals as goal
use Rattle.color.proofs.cover_alpha.Goals.{Start}

bound : (c : Start) → c.args.a * c.args.cov ≤ 255 * c.args.cov
bound c = mul-le-mul_right c.args.cov (omega arith)

pub returns-then-cov-ge255 : goal.returns-then-cov-ge255
unfolding cover_alpha
returns-then-cov-ge255 c = simp (le-leb _ _ c.if-cov-ge255.true)

pub overflow_mul-result : goal.overflow_mul-result
overflow_mul-result c = omega (arith, bound (goal.at.overflow_mul-result c).Start)

pub overflow_add-result : goal.overflow_add-result
overflow_add-result c = omega (arith, bound (goal.at.overflow_add-result c).Start)

pub returns : goal.returns
unfolding cover_alpha
returns c = simp (lt-leb _ _ c.if-cov-ge255.false)
