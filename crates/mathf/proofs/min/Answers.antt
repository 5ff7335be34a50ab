-- `min` meets its contract: each arm is the definition's, and a NaN alone is not equal to itself.
use Rattle.mathf.specs.Real.{min}
use Rattle.mathf.proofs.Laws.Tests.{nan_unlike}
use Rattle.mathf.proofs.min.Goals as goal

pub returns-then-b-a : goal.returns-then-b-a
unfolding min
returns-then-b-a c = simp c.if-b-a.true

pub returns-then-a : goal.returns-then-a
unfolding min
returns-then-a c = simp (nan_unlike, c.if-b-a.false, c.if-a.true)

pub returns-else-a : goal.returns-else-a
unfolding min
returns-else-a c = simp (nan_unlike, c.if-b-a.false, c.if-a.false)
