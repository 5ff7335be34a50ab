-- `frame_layer`: the painter takes the fields of the block.
use Rattle.layer.specs.Layer.{framed}
use Rattle.layer.proofs.frame_layer.Goals as goal

pub returns : goal.returns
unfolding framed
returns c = rw (c.surface_of-s.ensures, c.tag.ensures, c.first_flag.ensures, c.second_flag.ensures) at c.composite_secure_frame.ensures
