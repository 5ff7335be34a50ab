-- `cut_two`: by the law of two numbers in a word.
use Prim.Native.Nat.{◌+◌, ◌*◌, ◌/◌, ◌%◌}
use native.Mathlib.Omega.{arith}
use Rattle.panel.proofs.Cut.{two}
use Rattle.panel.proofs.light.cut_two.Goals as goal

pub returns : goal.returns
returns c = let f = c.args.f in two (f / 65536) (f % 65536) f ((f / 16777216 * 65536 + f / 256 % 256) * 255) (omega arith) (omega (arith, c.requires)) c.requires.0 c.requires.1
