-- `over_pix` meets its contract: twice a channel times the weight has 24 bits.
use Prim.Native.Nat.{ℕ, ◌*◌, ◌≤◌, ◌<◌}
use mathlib.Core.Path.{refl}
use native.Mathlib.Nat.{mul-le-mul_right}
use native.Mathlib.Omega.{arith}
use Rattle.color.specs.Color.{red, green, blue}
use Rattle.canvas.specs.Private.{over_pix}
use Rattle.canvas.proofs.over_pix.Goals as goal
use Rattle.canvas.proofs.over_pix.Goals.{Start}

bound : (d m : ℕ) → d < 256 → m ≤ 32639 → d * 2 * m ≤ 16645890
bound d m h l = let most : d * 2 * m ≤ 510 * m = mul-le-mul_right m (omega arith) in omega arith

facts : (c : Start) → let x = c.args in (red x.p * 2 * x.weight ≤ 16645890) × (green x.p * 2 * x.weight ≤ 16645890) × (blue x.p * 2 * x.weight ≤ 16645890)
facts c = let x = c.args in (bound (red x.p) x.weight (omega arith) c.requires.0, bound (green x.p) x.weight (omega arith) c.requires.0, bound (blue x.p) x.weight (omega arith) c.requires.0)

pub returns : goal.returns
unfolding over_pix
returns c = refl

pub overflow_mul-x-2 : goal.overflow_mul-x-2
overflow_mul-x-2 c = omega (arith, facts c)

pub overflow_add-x : goal.overflow_add-x
overflow_add-x c = omega (arith, facts c)

pub overflow_mul-y-2 : goal.overflow_mul-y-2
overflow_mul-y-2 c = omega (arith, facts c)

pub overflow_add-y : goal.overflow_add-y
overflow_add-y c = omega (arith, facts c)

pub overflow_mul-z-2 : goal.overflow_mul-z-2
overflow_mul-z-2 c = omega (arith, facts c)

pub overflow_add-z : goal.overflow_add-z
overflow_add-z c = omega (arith, facts c)

pub overflow_mul-result : goal.overflow_mul-result
overflow_mul-result c = omega (arith, facts c)

pub overflow_mul-result-2 : goal.overflow_mul-result-2
overflow_mul-result-2 c = omega (arith, facts c)

pub overflow_add-result : goal.overflow_add-result
overflow_add-result c = omega (arith, facts c)

pub overflow_add-result-2 : goal.overflow_add-result-2
overflow_add-result-2 c = omega (arith, facts c)
