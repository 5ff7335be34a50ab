-- `mixed_ch`: eight parts of two numbers.
use Prim.Native.Nat.{◌+◌, ◌*◌, ◌≤◌}
use native.Mathlib.Omega.{arith}
use Rattle.glass.proofs.RunRow.{eighths, eight_low}
use Rattle.glass.proofs.upsample.mixed_ch.Goals as goal
use Rattle.glass.proofs.upsample.mixed_ch.Goals.{Start}

low : (s : Start) → let a = s.args in a.l * a.a + a.r * a.b ≤ 522240
low s = let a = s.args in eight_low a.l a.r a.a a.b s.requires.0 s.requires.1 s.requires.2

pub returns : goal.returns
returns c = let a = c.args in (eighths a.l a.r a.a a.b c.requires.0, omega (arith, low c))

pub overflow_mul-result : goal.overflow_mul-result
overflow_mul-result c = record { fits = omega (arith, low c) }

pub overflow_mul-result-2 : goal.overflow_mul-result-2
overflow_mul-result-2 c = record { fits = omega (arith, low c) }

pub overflow_add-result : goal.overflow_add-result
overflow_add-result c = record { fits = omega (arith, low c) }
