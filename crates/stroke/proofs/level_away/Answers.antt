-- `level_away`: no number is up to a NaN, or from one on.
use lib.Ieee.{div, of_bits}
use Rattle.edge.proofs.Corner.{none_up_to, none_from}
use Rattle.stroke.proofs.level_away.Goals as goal

pub returns : goal.returns
unfolding div of_bits
returns c = record { low = none_up_to; high = none_from }
