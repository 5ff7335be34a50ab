-- `stretch_of`: field by field.
use Rattle.layer.specs.Layer.{stretch_of}
use Rattle.layer.proofs.stretch_of.Goals as goal

pub returns : goal.returns
unfolding stretch_of
returns c = cc
