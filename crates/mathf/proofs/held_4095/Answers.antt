-- `held_4095` meets its contract: each arm is the definition's.
use Rattle.mathf.proofs.held_4095.Goals as goal

pub returns-then-y : goal.returns-then-y
returns-then-y c = simp c.if-y.true

pub returns-else-y : goal.returns-else-y
returns-else-y c = simp c.if-y.false
