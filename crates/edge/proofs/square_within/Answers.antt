-- `square_within`: a root grows with its square; a NaN is beside every number.
use lib.Ieee.{of_bits}
use Rattle.edge.proofs.Corner.{within, none_up_to}
use Rattle.edge.proofs.square_within.Goals as goal

pub returns-then-u-b : goal.returns-then-u-b
returns-then-u-b c = within c.sqrt-u.ensures c.if-u-b.true

pub returns-else-u-b : goal.returns-else-u-b
unfolding of_bits
returns-else-u-b c = record { is = λ s f p h. absurd (none_up_to s h) }
