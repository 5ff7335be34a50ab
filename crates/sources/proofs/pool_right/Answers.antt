-- `pool_right`: a source that is larger than what is left.
use native.Mathlib.Omega.{arith}
use Rattle.sources.proofs.Table.{pool_short}
use Rattle.sources.proofs.pool_right.Goals as goal

pub returns-in_default : goal.returns-in_default
returns-in_default c = pool_short _ _ _ _ c.loop-i.invariant (omega (arith, c.size_of.ensures, c.in_default.ensures))
