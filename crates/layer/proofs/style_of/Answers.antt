-- `style_of`: field by field.
use Rattle.layer.specs.Layer.{style_of}
use Rattle.layer.proofs.style_of.Goals as goal

pub returns : goal.returns
unfolding style_of
returns c = cc
