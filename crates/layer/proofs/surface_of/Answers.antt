-- `surface_of`: field by field.
use Rattle.layer.specs.Layer.{surface_of}
use Rattle.layer.proofs.surface_of.Goals as goal

pub returns : goal.returns
unfolding surface_of
returns c = cc
