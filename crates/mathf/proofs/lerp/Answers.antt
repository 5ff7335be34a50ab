-- `lerp` meets its contract.
use Rattle.std.proofs.Common.{refl}
use Rattle.mathf.specs.Real.{lerp}
use Rattle.mathf.proofs.lerp.Goals as goal

pub returns : goal.returns
unfolding lerp
returns c = refl
