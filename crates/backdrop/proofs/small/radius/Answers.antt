-- `radius`: the definition's operations.
use Prim.Native.Nat.{ℕ, min}
use mathlib.Core.Path.{ap, ◌∙◌}
use lib.Ieee.{to_unsigned}
use Rattle.backdrop.specs.Picture.{radius_of}
use Rattle.backdrop.proofs.small.radius.Goals as goal

pub returns : goal.returns
unfolding radius_of
returns c = c.min.ensures ∙ ap (λ (n : ℕ). min n 32767) (c.to_u32.ensures ∙ ap (to_unsigned 32) c.max.ensures)
