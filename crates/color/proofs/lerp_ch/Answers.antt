-- `color::lerp_ch` meets its contract: the operations are the definition's, one by one.
use Rattle.color.specs.Color.{lerp_ch}
use Rattle.color.proofs.lerp_ch.Goals as goal

pub returns : goal.returns
unfolding lerp_ch
returns c = cc
