-- `pattern` meets its contract: `held` leaves a normal number as it is.
use mathlib.Core.Path.{ap}
use lib.Ieee.{binary32, to_bits}
use Rattle.roots.proofs.pattern.Goals as goal

pub returns : goal.returns
returns c = λ h. ap (to_bits binary32) (c.held.ensures.1 h)

pub float_to_bits-result : goal.float_to_bits-result
float_to_bits-result c = c.held.ensures.0
