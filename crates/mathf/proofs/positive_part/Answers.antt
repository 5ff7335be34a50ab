-- `positive_part` meets its contract: each arm is the definition's.
use Rattle.mathf.proofs.positive_part.Goals as goal

pub returns-then-x : goal.returns-then-x
returns-then-x c = simp c.if-x.true

pub returns-else-x : goal.returns-else-x
returns-else-x c = simp c.if-x.false
