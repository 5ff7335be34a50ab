-- `saturate` meets its contract.
use Rattle.mathf.specs.Real.{saturate}
use Rattle.mathf.proofs.saturate.Goals as goal

pub returns : goal.returns
unfolding saturate
returns c = c.clamp.ensures
