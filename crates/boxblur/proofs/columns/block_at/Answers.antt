-- `block_at`: the places of an image are small numbers.
use Prim.Native.Nat.{ℕ, ◌+◌, ◌*◌, ◌≤◌}
use mathlib.Core.Path.{refl}
use native.Mathlib.Nat.{mul-le-mul_right}
use native.Mathlib.Omega.{arith}
use Rattle.boxblur.proofs.columns.block_at.Goals as goal

low : (w x y : ℕ) → w ≤ 4096 → x ≤ 4096 → y ≤ 4096 → y * w + x ≤ 16781312
low w x y a b c = omega (arith, mul-le-mul_right w c)

pub overflow_mul-result : goal.overflow_mul-result
overflow_mul-result c = omega (arith, low _ _ _ c.requires.0 c.requires.1.0 c.requires.1.1)

pub overflow_add-result : goal.overflow_add-result
overflow_add-result c = omega (arith, low _ _ _ c.requires.0 c.requires.1.0 c.requires.1.1)

pub overflow_cast-result : goal.overflow_cast-result
overflow_cast-result c = omega (arith, low _ _ _ c.requires.0 c.requires.1.0 c.requires.1.1)

pub overflow_mul-result-2 : goal.overflow_mul-result-2
overflow_mul-result-2 c = omega (arith, low _ _ _ c.requires.0 c.requires.1.0 c.requires.1.1)

pub overflow_cast-result-2 : goal.overflow_cast-result-2
overflow_cast-result-2 c = omega (arith, low _ _ _ c.requires.0 c.requires.1.0 c.requires.1.1)

pub returns : goal.returns
returns c = (refl, omega (arith, low _ _ _ c.requires.0 c.requires.1.0 c.requires.1.1))
