-- `deep_square`: where the two radii are apart, the square of one; else a NaN.
use mathlib.Core.Path.{sym, ◌∙◌}
use lib.Ieee.{of_bits}
use Rattle.edge.proofs.Corner.{deep, none_up_to}
use Rattle.edge.proofs.deep_square.Goals as goal

pub returns-then-apart : goal.returns-then-apart
returns-then-apart c = deep (sym c.apart.ensures ∙ c.if-apart.true) c.square_within.ensures

pub returns-else-apart : goal.returns-else-apart
unfolding of_bits
returns-else-apart c = record { is = λ s f p h. absurd (none_up_to s h) }
