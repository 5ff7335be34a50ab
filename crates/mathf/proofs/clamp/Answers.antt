-- `clamp` meets its contract: each arm is the definition's.
use Rattle.mathf.specs.Real.{clamp}
use Rattle.mathf.proofs.clamp.Goals as goal

pub returns-then-x-lo : goal.returns-then-x-lo
unfolding clamp
returns-then-x-lo c = simp c.if-x-lo.true

pub returns-then-x-hi : goal.returns-then-x-hi
unfolding clamp
returns-then-x-hi c = simp (c.if-x-lo.false, c.if-x-hi.true)

pub returns-else-x-hi : goal.returns-else-x-hi
unfolding clamp
returns-else-x-hi c = simp (c.if-x-lo.false, c.if-x-hi.false)
