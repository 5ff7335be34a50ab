-- `far_square`: where the two radii are apart, the square of one; else a NaN.
use mathlib.Core.Path.{sym, ◌∙◌}
use lib.Ieee.{of_bits}
use Rattle.edge.proofs.Corner.{far_off, none_from}
use Rattle.edge.proofs.far_square.Goals as goal

pub returns-then-apart : goal.returns-then-apart
returns-then-apart c = far_off (sym c.apart.ensures ∙ c.if-apart.true) c.square_beyond.ensures

pub returns-else-apart : goal.returns-else-apart
unfolding of_bits
returns-else-apart c = record { is = λ s f p h. absurd (none_from s h) }
