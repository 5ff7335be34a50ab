-- `shadow_of`: field by field.
use Rattle.layer.specs.Layer.{shadow_of}
use Rattle.layer.proofs.shadow_of.Goals as goal

pub returns : goal.returns
unfolding shadow_of
returns c = cc
