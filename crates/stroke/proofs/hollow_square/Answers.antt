-- `hollow_square`: where the line is narrower than what lies deep, that square; else a NaN.
use mathlib.Core.Path.{sym, ◌∙◌}
use lib.Ieee.{div, of_bits}
use Rattle.edge.proofs.Corner.{none_up_to}
use Rattle.stroke.proofs.Laws.{hollow_square}
use Rattle.stroke.proofs.hollow_square.Goals as goal

pub returns-then-apart : goal.returns-then-apart
returns-then-apart c = hollow_square (sym c.apart.ensures ∙ c.if-apart.true) c.deep_square.ensures

pub returns-else-apart : goal.returns-else-apart
unfolding div of_bits
returns-else-apart c = record { is = λ s f p h. absurd (none_up_to s h) }
