-- `flight_of`: field by field.
use Rattle.layer.specs.Layer.{flight_of}
use Rattle.layer.proofs.flight_of.Goals as goal

pub returns : goal.returns
unfolding flight_of
returns c = cc
