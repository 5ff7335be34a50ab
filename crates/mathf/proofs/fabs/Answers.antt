-- `fabs` meets its contract: each arm is the definition's.
use Rattle.mathf.specs.Real.{fabs}
use Rattle.mathf.proofs.fabs.Goals as goal

pub returns-then-x : goal.returns-then-x
unfolding fabs
returns-then-x c = simp c.if-x.true

pub returns-else-x : goal.returns-else-x
unfolding fabs
returns-else-x c = simp c.if-x.false
