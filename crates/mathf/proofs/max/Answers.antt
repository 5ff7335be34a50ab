-- `max` meets its contract: each arm is the definition's, and a NaN alone is not equal to itself.
use Rattle.mathf.specs.Real.{max}
use Rattle.mathf.proofs.Laws.Tests.{nan_unlike}
use Rattle.mathf.proofs.max.Goals as goal

pub returns-then-a-b : goal.returns-then-a-b
unfolding max
returns-then-a-b c = simp c.if-a-b.true

pub returns-then-a : goal.returns-then-a
unfolding max
returns-then-a c = simp (nan_unlike, c.if-a-b.false, c.if-a.true)

pub returns-else-a : goal.returns-else-a
unfolding max
returns-else-a c = simp (nan_unlike, c.if-a-b.false, c.if-a.false)
